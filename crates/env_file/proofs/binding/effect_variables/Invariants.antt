use Rattle.std.proofs.Common.{◌≡◌, ◌++◌, length}
use Rattle.env_file.specs.Binding.{effect_variables}
use Rattle.env_file.proofs.binding.effect_variables.Given as goal

abbrev pub invariant-effects : goal.invariant-effects
invariant-effects l = l.all ++ effect_variables l.rest ≡ effect_variables l.es

abbrev pub decreases-effects : goal.decreases-effects
decreases-effects l = length l.rest
