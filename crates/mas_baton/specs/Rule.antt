-- What lies in the queue, and how it stands before the first turn.
use Rattle.std.specs.Prelude.{◌≡◌, ℕ, []}
use Rattle.mas_board.specs.declared.seats.Phase.TheVariants.{Idle}
use Rattle.mas_board.specs.Boards.{Noted, seat_at}
use Rattle.mas_board_turns.specs.Rule.{Showing}

-- the board, beside which nothing is kept
abbrev pub showing : Showing Noted
showing = record { board = λ x. x; keeps = λ first x. Unit {0} }

-- no turn was made yet, and no agent has begun a cycle
pub record IsFresh (b : Noted) : Type 0 where
  pub unplayed : b.schedule ≡ []
  pub idle : (a : ℕ) → (seat_at b.state a).phase ≡ Idle
  pub new : (a : ℕ) → (seat_at b.state a).cycle ≡ 0
