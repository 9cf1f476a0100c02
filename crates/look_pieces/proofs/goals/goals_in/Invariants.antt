use Rattle.std.proofs.Common.{◌≡◌, ◌++◌, length}
use Rattle.look_pieces.specs.Goals.{goals_in}
use Rattle.look_pieces.proofs.goals.goals_in.Given as goal

abbrev pub invariant-items : goal.invariant-items
invariant-items l = l.all ++ goals_in l.rest ≡ goals_in l.body

abbrev pub decreases-items : goal.decreases-items
decreases-items l = length l.rest
