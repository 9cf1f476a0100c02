use Rattle.std.proofs.Common.{◌≡◌, ◌++◌, map, take}
use Rattle.std.specs.Prelude.{codes}
use Rattle.std.specs.List.{flat_map}
use Rattle.asl_term.specs.Exprs as spec
use Rattle.asl_term.proofs.printing_expr.+write_expr.Given as goal

abbrev pub invariant-write_args-loop-arg : goal.invariant-write_args-loop-arg
invariant-write_args-loop-arg l = l.out ≡ l.initial.out ++ flat_map (λ u. codes "," ++ u) (map spec.arg_text (map (spec.map_arg spec.text) (take l.arg-index l.rest)))
