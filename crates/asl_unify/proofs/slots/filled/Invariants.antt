use Rattle.asl_unify.specs.inner.Slots.{AreFirst}
use Rattle.asl_unify.proofs.slots.filled.Given as goal

abbrev pub invariant-loop-k : goal.invariant-loop-k
invariant-loop-k l = AreFirst l.pairs l.k l.slots
