use Rattle.std.proofs.Common.{◌≡◌, map, drop}
use Rattle.asl_index_tables.specs.Prints.{mixed}
use Rattle.asl_plans.specs.FiledPlaces.{arg_key}
use Rattle.asl_plans.proofs.keys.args_key.Given as goal

abbrev pub invariant-loop-a : goal.invariant-loop-a
invariant-loop-a l = mixed l.n (map arg_key (drop l.a-index l.args)) ≡ mixed 8 (map arg_key l.args)
