use Rattle.std.proofs.Common.{◌≡◌, length}
use Rattle.std.specs.List.{list_all}
use Rattle.env_file.specs.Binding.{is_bound}
use Rattle.env_file.proofs.binding.are_bound.Given as goal

abbrev pub invariant-variables : goal.invariant-variables
invariant-variables l = list_all (is_bound l.bound) l.rest ≡ list_all (is_bound l.bound) l.vs

abbrev pub decreases-variables : goal.decreases-variables
decreases-variables l = length l.rest
