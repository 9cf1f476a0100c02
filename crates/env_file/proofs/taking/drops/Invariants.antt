use Rattle.std.proofs.Common.{◌≡◌, [], length}
use Rattle.env_file.specs.Worlds.{drops}
use Rattle.env_file.proofs.taking.drops.Given as goal

abbrev pub invariant-effects : goal.invariant-effects
invariant-effects l = drops l.names l.rest ≡ drops [] l.es

abbrev pub decreases-effects : goal.decreases-effects
decreases-effects l = length l.rest
