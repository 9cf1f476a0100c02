use Rattle.std.proofs.Common.{◌≡◌, ◌++◌, length, map}
use Rattle.look_hints.specs.Planless.{spot, spot_of}
use Rattle.look_hints.proofs.planless.hints_at.Given as goal

abbrev pub invariant-goals : goal.invariant-goals
invariant-goals l = map spot l.all ++ map spot_of l.rest ≡ map spot_of l.goals

abbrev pub decreases-goals : goal.decreases-goals
decreases-goals l = length l.rest
