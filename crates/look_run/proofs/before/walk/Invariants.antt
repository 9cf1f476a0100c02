-- the numbers before had their turn, and their texts are told
use Rattle.look_run.proofs.Walking.{Walking}
use Rattle.look_run.proofs.before.walk.Given as goal

abbrev pub invariant-loop-at : goal.invariant-loop-at
invariant-loop-at g l = Walking g.M.Mind.kind g.W.MindTexts.texts l.fn.play l.names l.marks l.play l.texts l.at
