use Rattle.mas_report.proofs.Shown.{told_from}
use Rattle.mas_report.proofs.reading.read_report.Goals as goal

pub returns-in-Some : goal.returns-in-Some
returns-in-Some c =
    let first = c.in-Some.first in
    told_from c.args.bytes.now first.version first.behind.now c.told_behind.result c.in-Some.ensures c.told_behind.ensures.version c.told_behind.ensures.rest
