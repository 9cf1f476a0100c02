use Rattle.look_run.proofs.Going.{leads_nowhere, led}
use Rattle.look_run.proofs.steps.leads_to_report.Goals as goal

pub returns-in-None : goal.returns-in-None
returns-in-None g c =
    leads_nowhere g.M.Mind.kind c.args.version c.args.o.now c.args.bytes.now c.args.play c.args.names.now (rw c.in-None.is at c.in_ok-follow.ensures)

pub returns-in-Some : goal.returns-in-Some
returns-in-Some g c =
    led g.M.Mind.kind c.args.version c.args.o.now c.args.bytes.now c.args.play c.args.names.now c.in-Some.play c.is_reported.result
    (rw c.in-Some.is at c.in_ok-follow.ensures) c.is_reported.ensures
