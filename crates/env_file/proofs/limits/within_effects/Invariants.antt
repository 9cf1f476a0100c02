use Rattle.std.proofs.Common.{◌≡◌, length}
use Rattle.std.specs.List.{list_all}
use Rattle.env_file.specs.Limits.{within_effect}
use Rattle.env_file.proofs.limits.within_effects.Given as goal

abbrev pub invariant-effects : goal.invariant-effects
invariant-effects l = list_all within_effect l.rest ≡ list_all within_effect l.effects

abbrev pub decreases-effects : goal.decreases-effects
decreases-effects l = length l.rest
