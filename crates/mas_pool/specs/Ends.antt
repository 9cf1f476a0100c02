-- The agents of a whole run: as they are dealt, and as they have come back.
use Rattle.std.specs.Prelude.{ℕ, ◌≡◌, ◌<◌, List, length}
use Rattle.mas_mind.specs.Minds.{Kind}
use Rattle.mas_board.specs.declared.seats.Phase.TheVariants.{Idle}
use Rattle.mas_board.specs.Boards.{Noted, seat_at}
use Rattle.mas_core.specs.Fits.{Start}
use Rattle.mas_core.specs.Platform.{opening_platform}
use Rattle.mas_core.specs.Replay.{RanAlong}
use Rattle.mas_baton.specs.declared.baton.Baton.{Baton}
use Rattle.mas_baton.specs.declared.seat.Seat.{Seat}
use Rattle.mas_baton.specs.Seats.{Opened}
use Rattle.mas_board_lists.specs.Lists.{Each, numbers_from}
use Rattle.mas_pool_ready.specs.Rule.{numbers}
use Rattle.mas_pool_task.specs.declared.going.Going.{Going}
use Rattle.mas_pool_task.specs.Goings.{Became}
use Rattle.mas_pool.specs.Workers.{number_of, AreAt, AreEnded}
use Rattle.mas_pool.specs.Dealing.{dealt}

module _ {V A : Type 0} where
  -- the board was opened at this baton, and each agent has a seat of it and its mind
  pub record AreSeated (k : Kind V) (board : Noted) (minds : List V) (b : Baton A) (goings : List (Going V A)) : Type 0 where
    pub seats : List (Seat A)
    pub opened : Opened board b seats
    pub start : Start k board minds
    pub idle : (a : ℕ) → (seat_at board.state a).phase ≡ Idle
    pub goings_are : goings ≡ dealt seats minds
    pub count : length goings ≡ length board.state.seats
    pub some : 0 < length goings
    pub numbers_are : numbers number_of goings ≡ numbers_from 1 (length goings)
    pub rest : Each (λ (g : Going V A). Became k g g) goings
    pub home : AreAt b goings

  -- the agents of a run have come back, each as it ended
  pub record AreBack (k : Kind V) (b : Baton A) (goings : List (Going V A)) : Type 0 where
    pub board : Noted
    pub minds : List V
    pub first : List (Going V A)
    pub seated : AreSeated k board minds b first
    pub ended : AreEnded k first goings

  -- the board and the minds are those of that run along the board's own schedule
  abbrev pub HasRun : (k : Kind V) (b : Baton A) (goings : List (Going V A)) → Noted → List V → Type 0
  HasRun k b goings board minds = (back : AreBack k b goings) → RanAlong k (opening_platform back.board.state back.minds) board.schedule board minds
