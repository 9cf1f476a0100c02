use Rattle.std.proofs.Common.{◌≡◌, take}
use Rattle.asl_term.proofs.compare_expr.equal_formulas.Given as goal

abbrev pub invariant-loop-i : goal.invariant-loop-i
invariant-loop-i l = take l.i l.a ≡ take l.i l.b
