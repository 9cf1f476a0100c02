use Rattle.std.proofs.Common.{◌≡◌, map, max, drop}
use Rattle.asl_term.specs.Trees as tree
use Rattle.asl_term.specs.Exprs as spec
use Rattle.asl_term.proofs.expr_measure.+expr_depth.Given as goal

abbrev pub invariant-args_depth-loop-arg : goal.invariant-args_depth-loop-arg
invariant-args_depth-loop-arg l = max l.n (tree.capped (tree.greatest (map spec.arg_depth (map (spec.map_arg spec.depth) (drop l.arg-index l.args))))) ≡ tree.capped (tree.greatest (map spec.arg_depth (map (spec.map_arg spec.depth) l.args)))
