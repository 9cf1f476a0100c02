use Rattle.std.proofs.Common.{◌≡◌, map, sum, take}
use Rattle.asl_term.specs.Trees as tree
use Rattle.asl_term.specs.Exprs as exprs
use Rattle.asl_parser_tree.proofs.limits.args_size.Given as goal

abbrev pub invariant-loop-arg : goal.invariant-loop-arg
invariant-loop-arg l = l.n ≡ tree.capped (sum (map exprs.arg_size (map (exprs.map_arg exprs.size) (take l.arg-index l.args))))
