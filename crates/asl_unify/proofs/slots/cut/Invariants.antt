use Rattle.std.proofs.Common.{◌≤◌, length}
use Rattle.asl_unify.specs.inner.Slots.{AreFirst}
use Rattle.asl_unify.proofs.slots.cut.Given as goal

abbrev pub invariant-loop-k : goal.invariant-loop-k
invariant-loop-k l = record {
  low : l.end ≤ l.k;
  high : l.k ≤ length l.pairs;
  placed : AreFirst l.pairs l.k l.slots;
}

abbrev pub decreases-loop-k : goal.decreases-loop-k
decreases-loop-k l = l.k
