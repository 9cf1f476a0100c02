use Rattle.std.proofs.Common.{◌≡◌, length}
use Rattle.env_file.specs.Binding.{with_parts}
use Rattle.env_file.proofs.binding.with_parts.Given as goal

abbrev pub invariant-parts : goal.invariant-parts
invariant-parts l = with_parts l.all l.rest ≡ with_parts l.fn.bound l.fn.ps

abbrev pub decreases-parts : goal.decreases-parts
decreases-parts l = length l.rest
