use Rattle.std.proofs.Common.{◌≡◌, map, drop}
use Rattle.asl_index_tables.specs.Prints.{mixed}
use Rattle.asl_plans.specs.FiledPlaces.{formula_key}
use Rattle.asl_plans.proofs.keys.body_key.Given as goal

abbrev pub invariant-loop-f : goal.invariant-loop-f
invariant-loop-f l = mixed l.n (map formula_key (drop l.f-index l.body)) ≡ mixed l.first (map formula_key l.body)
