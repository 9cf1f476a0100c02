use Rattle.std.proofs.Common.{◌≡◌, ◌++◌, length}
use Rattle.env_file.specs.Guards.{exprs_of}
use Rattle.env_file.proofs.guards.exprs_of.Given as goal

abbrev pub invariant-parts : goal.invariant-parts
invariant-parts l = l.all ++ exprs_of l.rest ≡ exprs_of l.ps

abbrev pub decreases-parts : goal.decreases-parts
decreases-parts l = length l.rest
