use Rattle.asl_index.proofs.Perceiving.{Left}
use Rattle.asl_index.proofs.updating.are_at.Given as goal

abbrev pub invariant-loop-i : goal.invariant-loop-i
invariant-loop-i l = Left l.store l.percepts l.i
