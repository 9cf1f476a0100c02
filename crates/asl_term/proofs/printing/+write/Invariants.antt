use Rattle.std.proofs.Common.{◌≡◌, ◌++◌, map, take}
use Rattle.std.specs.Prelude.{codes}
use Rattle.std.specs.List.{flat_map}
use Rattle.asl_term.specs.Texts as spec
use Rattle.asl_term.proofs.printing.+write.Given as goal

abbrev pub invariant-commas-loop-t : goal.invariant-commas-loop-t
invariant-commas-loop-t l = l.out ≡ l.initial.out ++ flat_map (λ u. codes "," ++ u) (map spec.text (take l.t-index l.rest))
