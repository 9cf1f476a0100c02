use Rattle.std.proofs.lemmas.Result.{IfOk-weaker, IfErr-weaker}
use Rattle.mas_report_schedule.specs.Reading.{first}
use Rattle.mas_report_schedule.proofs.Answered.{line_is, fault_is}
use Rattle.mas_report_schedule.proofs.reading.read_schedule.Goals as goal

pub returns-in_default-clause-err : goal.returns-in_default-clause-err
returns-in_default-clause-err c = first c.in_default.ensures

pub returns-clause-ok : goal.returns-clause-ok
returns-clause-ok c =
    let line = c.in-Some.line in
    IfOk-weaker c.numbers.result _ _ (λ names e. line_is c.args.bytes.now line.value line.behind.now c.in-Some.ensures names e) c.numbers.ensures.ok

pub returns-clause-err : goal.returns-clause-err
returns-clause-err c =
    let line = c.in-Some.line in
    IfErr-weaker c.numbers.result _ _ (λ fault e. fault_is c.args.bytes.now line.value line.behind.now c.in-Some.ensures fault e) c.numbers.ensures.err
