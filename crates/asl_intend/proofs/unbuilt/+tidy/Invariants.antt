use Rattle.std.proofs.Common.{◌≡◌, map, drop}
use Rattle.asl_term.specs.Trees.{all}
use Rattle.asl_unify.specs.Unifiers.{is_tidy}
use Rattle.asl_intend.proofs.unbuilt.+tidy.Given as goal

abbrev pub invariant-are_tidy-loop-t : goal.invariant-are_tidy-loop-t
invariant-are_tidy-loop-t l = all (map is_tidy (drop l.t-index l.ts)) ≡ all (map is_tidy l.ts)
