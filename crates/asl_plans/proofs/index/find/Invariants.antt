use Rattle.std.proofs.Common.{◌≡◌, false, take}
use Rattle.std.specs.List.{slice_get, list_any}
use Rattle.asl_index_tables.specs.Keys.{listed}
use Rattle.asl_plans.specs.FiledPlaces.{is_plan}
use Rattle.asl_plans.proofs.index.find.Given as goal

abbrev pub invariant-loop-k : goal.invariant-loop-k
invariant-loop-k l = list_any (λ k. is_plan l.p (slice_get l.entries k)) (take l.k (listed l.keys l.key)) ≡ false
