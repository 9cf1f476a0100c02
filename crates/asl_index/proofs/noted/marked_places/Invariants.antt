use Rattle.std.proofs.Common.{◌≡◌, take}
use Rattle.asl_index_tables.specs.Slots.{places}
use Rattle.asl_index.specs.Noted.{is_perceived}
use Rattle.asl_index.proofs.noted.marked_places.Given as goal

abbrev pub invariant-loop-k : goal.invariant-loop-k
invariant-loop-k l = l.found ≡ places is_perceived 0 (take l.k l.slots)
