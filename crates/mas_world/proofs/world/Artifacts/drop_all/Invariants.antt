use Rattle.std.proofs.Common.{◌≡◌, drop}
use Rattle.mas_world.specs.Worlds.{dropped}
use Rattle.mas_world.proofs.world.Artifacts.drop_all.Given as goal

abbrev pub invariant-loop-name : goal.invariant-loop-name
invariant-loop-name g l = dropped (drop l.name-index l.names) l.self ≡ dropped l.names l.fn.self
