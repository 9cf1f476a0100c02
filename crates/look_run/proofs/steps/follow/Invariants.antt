use Rattle.look_run.proofs.Going.{Going}
use Rattle.look_run.proofs.steps.follow.Given as goal

abbrev pub invariant-loop-a : goal.invariant-loop-a
invariant-loop-a g l = Going g.M.Mind.kind l.fn.play l.names l.play l.a-index
