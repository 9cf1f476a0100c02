use Rattle.mas_record_rounds.proofs.Steps.{leaves_if}
use Rattle.mas_record_rounds.proofs.step.end_cycle.Goals as goal

pub returns-in-Ok-leave-clause-ok : goal.returns-in-Ok-leave-clause-ok
returns-in-Ok-leave-clause-ok g c =
    let s = c.args.sharer.now in
    leaves_if g.M.Mind.kind c.args.recorder.now s c.leave.new.ticket c.args.thought c.in-Spent.is c.requires c.leave.ensures.ticket c.in-Ok-leave.ensures.left
