use Rattle.std.proofs.Common.{◌≡◌, ◌++◌, length}
use Rattle.look_pieces.specs.Goals.{unplanned_at}
use Rattle.look_pieces.proofs.goals.unplanned_at.Given as goal

abbrev pub invariant-goals : goal.invariant-goals
invariant-goals l = l.all ++ unplanned_at l.cs l.first l.ps l.gs ≡ unplanned_at l.cs l.first l.places l.goals

abbrev pub decreases-goals : goal.decreases-goals
decreases-goals l = length l.gs
