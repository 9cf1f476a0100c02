use Rattle.std.proofs.Common.{ℕ, ◌≡◌, ◌<◌}
use Rattle.asl_intend.specs.Bodies.{formula_at}
use Rattle.asl_same.proofs.stacks.same_formulas.Given as goal

abbrev pub invariant-loop-i : goal.invariant-loop-i
invariant-loop-i l = (j : ℕ) → j < l.i → formula_at l.a l.k j ≡ formula_at l.b l.k j
