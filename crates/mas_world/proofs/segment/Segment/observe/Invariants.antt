use Rattle.std.proofs.Common.{◌≡◌, take}
use Rattle.mas_world.proofs.segment.Segment.observe.Given as goal

abbrev pub invariant-loop-f : goal.invariant-loop-f
invariant-loop-f l = l.copies ≡ take l.f-index l.f-items
