use Rattle.std.proofs.Common.{◌≡◌, ◌++◌, length}
use Rattle.env_file.specs.Worlds.{changes}
use Rattle.env_file.proofs.taking.changes.Given as goal

abbrev pub invariant-effects : goal.invariant-effects
invariant-effects l = l.all ++ changes l.add l.rest ≡ changes l.add l.es

abbrev pub decreases-effects : goal.decreases-effects
decreases-effects l = length l.rest
