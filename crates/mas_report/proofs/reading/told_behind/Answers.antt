use Rattle.std.proofs.Common.{rules}
use Rattle.mas_report.specs.Reading.{BeginsWith}
use Rattle.mas_report.proofs.Shown.{not_optioned_by, not_scheduled_by}
use Rattle.mas_report.proofs.reading.told_behind.Goals as goal

pub returns-in-Ok-None-clause-rest : goal.returns-in-Ok-None-clause-rest
returns-in-Ok-None-clause-rest c = not_optioned_by c.args.bytes.now c.in-Ok-None.field-0 c.in-Ok-None.field-0-is c.in-Ok-None.ensures

pub returns-in-Ok-None-last_schedule-clause-rest : goal.returns-in-Ok-None-last_schedule-clause-rest
returns-in-Ok-None-last_schedule-clause-rest c =
    let front = c.in-Ok-Some.front in
    let b : BeginsWith c.args.bytes.now front.options front.behind.now = search rules in
    let last = c.in-Ok-None-last_schedule in
    not_scheduled_by c.args.bytes.now front.options front.behind.now last.field-0 b last.field-0-is last.ensures
