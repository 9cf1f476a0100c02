use Rattle.std.proofs.Common.{◌≡◌, take}
use Rattle.asl_term.proofs.copying.+copy_expr.Given as goal

abbrev pub invariant-copy_args-loop-arg : goal.invariant-copy_args-loop-arg
invariant-copy_args-loop-arg l = l.r ≡ take l.arg-index l.args
