-- What a look at the agents tells.
use Rattle.std.specs.Prelude.{ℕ, ◌≡◌, ◌+◌, ◌<◌, ◌≤◌, Bool, true, false, nat_le, if◌then◌else◌, List, length, slice_get, Option, Some, None, MatchOption}
use Rattle.mas_mind.specs.declared.mind.Message.{Message}
use Rattle.mas_board.specs.declared.seats.AgentPlace.{AgentPlace}
use Rattle.mas_board.specs.Boards.{rests, are_quiet, seat_or_none, box_or_none, least}

module _ (version : ℕ) (seats : List AgentPlace) (boxes : List (List Message)) where
  -- whether the agent at a place, counted from 0, rests
  abbrev pub rests_at : ℕ → Bool
  rests_at i = rests version (seat_or_none (slice_get seats i)) (box_or_none (slice_get boxes i))

  -- those from one place on, before another, rest
  abbrev pub RestBetween : ℕ → ℕ → Type 0
  RestBetween from to = (i : ℕ) → from ≤ i → i < to → rests_at i ≡ true

  -- the agent at this place does not
  pub record IsAwake (i : ℕ) : Type 0 where
    pub there : i < length seats
    pub awake : rests_at i ≡ false

  -- the place of one of these that does not rest, or none where all do
  abbrev pub Woken : ℕ → ℕ → Option ℕ → Type 0
  Woken from to found = MatchOption found (RestBetween from to) IsAwake

  -- the place of an agent that does not rest, where not all are quiet
  abbrev pub Watched : Option ℕ → Type 0
  Watched found = MatchOption found (are_quiet version seats boxes ≡ true) (λ i. are_quiet version seats boxes ≡ false)

-- the least cycle number, where an agent with this one has to wait for it
abbrev pub held_by : ℕ → ℕ → List AgentPlace → Option ℕ
held_by lead own seats = if nat_le (lead + least own seats) own then Some (least own seats) else None
