use Rattle.std.proofs.Common.{◌≡◌, drop}
use Rattle.asl_index_tables.specs.Frames.{places_in}
use Rattle.asl_index_tables.proofs.frames.places_of.Given as goal

abbrev pub invariant-loop-g : goal.invariant-loop-g
invariant-loop-g l = places_in l.neg l.count (drop l.g-index l.groups) ≡ places_in l.neg l.count l.groups
