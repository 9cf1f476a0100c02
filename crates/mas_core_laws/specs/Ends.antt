-- How many turns a run of the platform has at most.
use Rattle.std.specs.Prelude.{ℕ, ◌≡◌, ◌≤◌, List, length, Some}
use Rattle.mas_mind.specs.Minds.{Kind}
use Rattle.mas_world.specs.Worlds.{World}
use Rattle.mas_board.specs.Boards.{opening}
use Rattle.mas_core.specs.Platform.{Platform, run, opening_platform}
use Rattle.mas_core.specs.Robin.{most_turns}

-- two for each cycle of each agent, and one in which it leaves
abbrev pub RunsEnd : {V : Type 0} → Kind V → Type 0
RunsEnd {V} k =
    (agents : List (List ℕ)) (w : World) (cycles lead : ℕ) (minds : List V) (done : Platform V) (names : List ℕ) →
    let board = opening agents w cycles lead in
    run k (opening_platform board minds) names ≡ Some done → length names ≤ most_turns board
