use Rattle.std.proofs.Common.{◌≡◌, drop}
use Rattle.asl_index_tables.specs.Frames.{group_from}
use Rattle.asl_index_tables.proofs.frames.find.Given as goal

abbrev pub invariant-loop-i : goal.invariant-loop-i
invariant-loop-i l = group_from l.i l.neg l.count (drop l.i l.groups) ≡ group_from 0 l.neg l.count l.groups
