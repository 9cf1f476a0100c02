use Rattle.std.proofs.Common.{◌≡◌, map, max, drop}
use Rattle.asl_term.specs.Trees as tree
use Rattle.asl_term.specs.Exprs as exprs
use Rattle.asl_parser_tree.proofs.limits.args_depth.Given as goal

abbrev pub invariant-loop-arg : goal.invariant-loop-arg
invariant-loop-arg l = max l.n (tree.capped (tree.greatest (map exprs.arg_depth (map (exprs.map_arg exprs.depth) (drop l.arg-index l.args))))) ≡ tree.capped (tree.greatest (map exprs.arg_depth (map (exprs.map_arg exprs.depth) l.args)))
