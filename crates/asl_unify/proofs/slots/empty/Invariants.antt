use Rattle.std.proofs.Common.{◌≡◌, ℕ, length, get_or}
use Rattle.asl_unify.proofs.slots.empty.Given as goal

abbrev pub invariant-loop-i : goal.invariant-loop-i
invariant-loop-i l = record {
  many : length l.last.items ≡ l._i;
  none : (j : ℕ) → get_or l.last.items j 0 ≡ 0;
}
