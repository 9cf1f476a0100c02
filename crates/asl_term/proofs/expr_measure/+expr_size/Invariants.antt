use Rattle.std.proofs.Common.{◌≡◌, map, sum, take}
use Rattle.asl_term.specs.Trees as tree
use Rattle.asl_term.specs.Exprs as spec
use Rattle.asl_term.proofs.expr_measure.+expr_size.Given as goal

abbrev pub invariant-args_size-loop-arg : goal.invariant-args_size-loop-arg
invariant-args_size-loop-arg l = l.n ≡ tree.capped (sum (map spec.arg_size (map (spec.map_arg spec.size) (take l.arg-index l.args))))
