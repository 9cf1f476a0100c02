use Rattle.std.proofs.Common.{◌≡◌, map, drop}
use Rattle.asl_term.specs.Trees.{all, is_ground}
use Rattle.asl_unify.proofs.occurs.are_closed.Given as goal

abbrev pub invariant-loop-t : goal.invariant-loop-t
invariant-loop-t l = all (map is_ground (drop l.t-index l.ts)) ≡ all (map is_ground l.ts)
