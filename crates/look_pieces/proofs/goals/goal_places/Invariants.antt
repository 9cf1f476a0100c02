use Rattle.std.proofs.Common.{◌≡◌, ◌++◌, length}
use Rattle.look_pieces.specs.Goals.{places_from, goal_places}
use Rattle.look_pieces.proofs.goals.goal_places.Given as goal

abbrev pub invariant-toks : goal.invariant-toks
invariant-toks l = l.all ++ places_from l.change l.rest ≡ goal_places l.toks

abbrev pub decreases-toks : goal.decreases-toks
decreases-toks l = length l.rest
