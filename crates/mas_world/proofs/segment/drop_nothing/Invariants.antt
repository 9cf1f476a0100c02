use Rattle.std.proofs.Common.{◌≡◌, drop}
use Rattle.mas_world.specs.Worlds as spec
use Rattle.mas_world.proofs.segment.drop_nothing.Given as goal

abbrev pub invariant-loop-a : goal.invariant-loop-a
invariant-loop-a l = spec.drop_nothing (drop l.a-index l.acts) ≡ spec.drop_nothing l.acts
