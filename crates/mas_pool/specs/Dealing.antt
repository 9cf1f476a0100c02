-- Seats and minds, put together and taken apart.
use Rattle.std.specs.Prelude.{ℕ, ◌≡◌, ◌≤◌, true, List, map, zip}
use Rattle.mas_board.specs.declared.seats.AgentPlace as board
use Rattle.mas_board.specs.Boards.{seat_of, is_gone}
use Rattle.mas_mind.specs.Minds.{IsAgent}
use Rattle.mas_baton.specs.declared.seat.Seat.{Seat}
use Rattle.mas_pool_task.specs.declared.going.Going.{Going}

module _ {V A : Type 0} where
  -- an agent before its first cycle
  abbrev pub dealt_one : Seat A × V → Going V A
  dealt_one p = record { number = p.0.number; cycle = 0; seat = p.0; mind = p.1 }

  abbrev pub dealt : List (Seat A) → List V → List (Going V A)
  dealt seats minds = map dealt_one (zip seats minds)

  abbrev pub seats_of : List (Going V A) → List (Seat A)
  seats_of goings = map (λ (g : Going V A). g.seat) goings

  abbrev pub minds_of : List (Going V A) → List V
  minds_of goings = map (λ (g : Going V A). g.mind) goings

-- the first n agents have left
abbrev pub AllGone : ℕ → List board.AgentPlace → Type 0
AllGone n seats = (a : ℕ) → IsAgent n a → is_gone (seat_of seats a).phase ≡ true
