use Rattle.std.proofs.Common.{◌≡◌, drop}
use Rattle.std.specs.Prelude.{◌==◌, not}
use Rattle.std.specs.List.{list_any}
use Rattle.asl_plans.proofs.owners.has_another.Given as goal

abbrev pub invariant-loop-x : goal.invariant-loop-x
invariant-loop-x l = list_any (λ x. not (x == l.owner)) (drop l.x-index l.owners) ≡ list_any (λ x. not (x == l.owner)) l.owners
