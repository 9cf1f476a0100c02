-- the numbers before had their turn, and their changes are told
use Rattle.look_mind.proofs.Walking.{Walking}
use Rattle.look_mind.proofs.along.walk.Given as goal

abbrev pub invariant-loop-a : goal.invariant-loop-a
invariant-loop-a g l = Walking g.M.Mind.kind g.W.MindTexts.texts l.fn.play l.names l.play l.changes l.a-index
