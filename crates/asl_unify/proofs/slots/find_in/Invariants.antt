use Rattle.std.proofs.Common.{length}
use Rattle.asl_unify.specs.inner.Slots.{slot}
use Rattle.asl_unify.proofs.Slotted.{IsSought}
use Rattle.asl_unify.proofs.slots.find_in.Given as goal

abbrev pub invariant-loop-at : goal.invariant-loop-at
invariant-loop-at l = IsSought (slot (length l.slots.last.items)) l.pairs l.x l.at

abbrev pub decreases-loop-at : goal.decreases-loop-at
decreases-loop-at l = l.at
