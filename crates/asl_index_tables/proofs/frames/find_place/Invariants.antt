use Rattle.std.proofs.Common.{◌≡◌, drop}
use Rattle.asl_index_tables.specs.Frames.{place_from}
use Rattle.asl_index_tables.proofs.frames.find_place.Given as goal

abbrev pub invariant-loop-i : goal.invariant-loop-i
invariant-loop-i l = place_from l.i l.place (drop l.i l.places) ≡ place_from 0 l.place l.places
