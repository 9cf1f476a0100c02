-- The failures that the agents of a run show.
use Rattle.std.specs.Prelude.{ℕ, ◌≡◌, List, map, Some}
use Rattle.mas_mind.specs.Minds.{Kind}
use Rattle.mas_core.specs.Platform.{Platform, run}
use Rattle.look_lines.specs.declared.falls.FallLine.{FallLine}
use Rattle.look_lines.specs.Falls.{falls}

-- after these turns the lines of the agents tell of these, by agent
pub record HaveFallen {V : Type 0} (k : Kind V) (p : Platform V) (turns : List ℕ) (found : List (List FallLine)) : Type 0 where
  pub after : Platform V
  pub ran : run k p turns ≡ Some after
  pub is : found ≡ map (λ m. falls (k.lines m)) after.minds
