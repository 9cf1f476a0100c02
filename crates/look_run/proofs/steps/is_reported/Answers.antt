use Rattle.std.proofs.Common.{◌≡◌, false, true, is_some}
use Rattle.look_run.proofs.Going.{not_ended, reported}
use Rattle.look_run.proofs.steps.is_reported.Goals as goal

pub returns-then-is_some : goal.returns-then-is_some
returns-then-is_some g c =
    let some : is_some c.first_here.result ≡ true = cc (c.is_some.ensures, c.if-is_some.true) in
    not_ended g.M.Mind.kind c.args.version c.args.o.now c.args.bytes.now c.args.play c.first_here.result c.first_here.ensures some

pub returns : goal.returns
returns g c =
    let none : is_some c.first_here.result ≡ false = cc (c.is_some.ensures, c.if-is_some.false) in
    reported g.M.Mind.kind c.args.version c.args.o.now c.args.bytes.now c.args.play c.first_here.result c.is_report.result c.first_here.ensures none
    c.is_report.ensures
