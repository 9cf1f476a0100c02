use Rattle.std.proofs.Common.{◌≡◌, length}
use Rattle.env_file.specs.Binding.{first_free}
use Rattle.env_file.proofs.binding.first_free.Given as goal

abbrev pub invariant-variables : goal.invariant-variables
invariant-variables l = first_free l.bound l.rest ≡ first_free l.bound l.vs

abbrev pub decreases-variables : goal.decreases-variables
decreases-variables l = length l.rest
