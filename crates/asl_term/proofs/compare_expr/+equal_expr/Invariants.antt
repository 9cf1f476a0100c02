use Rattle.std.proofs.Common.{◌≡◌, take}
use Rattle.asl_term.proofs.compare_expr.+equal_expr.Given as goal

abbrev pub invariant-equal_args-loop-i : goal.invariant-equal_args-loop-i
invariant-equal_args-loop-i l = take l.i l.a ≡ take l.i l.b
