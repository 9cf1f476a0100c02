use Rattle.std.proofs.Common.{◌≡◌, map, take}
use Rattle.asl_index_tables.specs.Firsts.{first_print}
use Rattle.asl_index_tables.specs.Slots.{kept}
use Rattle.asl_index.proofs.firsts.noted_again.Given as goal

abbrev pub invariant-loop-k : goal.invariant-loop-k
invariant-loop-k l = l.firsts ≡ map first_print (kept (take l.k l.slots))
