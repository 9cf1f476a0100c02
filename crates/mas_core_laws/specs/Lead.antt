-- How far the cycles of agents are apart along a run of the platform.
use Rattle.std.specs.Prelude.{ℕ, ◌≡◌, List, Some}
use Rattle.mas_mind.specs.Minds.{Kind}
use Rattle.mas_world.specs.Worlds.{World}
use Rattle.mas_board.specs.Boards.{opening}
use Rattle.mas_board.specs.Seating.{AreLed}
use Rattle.mas_core.specs.Platform.{Platform, run, opening_platform}

-- rule: after any run from the opening no agent that has not left is more than the lead ahead of another that has not left
abbrev pub NeverFarAhead : {V : Type 0} → Kind V → Type 0
NeverFarAhead {V} k =
    (agents : List (List ℕ)) (w : World) (cycles lead : ℕ) (minds : List V) (done : Platform V) (names : List ℕ) →
    run k (opening_platform (opening agents w cycles lead) minds) names ≡ Some done → AreLed lead done.board.seats
