-- Tickets, minds and thoughts, put together and taken apart.
use Rattle.std.specs.Prelude.{ℕ, ◌≡◌, ◌+◌, ◌≤◌, List, [], ◌∷◌, ◌++◌, length, map, zip, Option}
use Rattle.mas_board_lists.specs.Lists.{Each}
use Rattle.asl_term.specs.Spare.{WithSpare}
use Rattle.mas_mind.specs.declared.mind.Thought.{Thought}
use Rattle.mas_record.specs.declared.ticket.Ticket.{Ticket}
use Rattle.mas_record_rounds.specs.declared.sharer.Sharer.{Sharer}
use Rattle.mas_record_rounds.specs.declared.share.Share.{Share}
use Rattle.mas_record_rounds.specs.declared.share.Waiting.{Waiting}
use Rattle.mas_record_rounds.specs.declared.share.Rooms.{Rooms}

-- an empty list with room for so many items
pub record HasRoom {T : Type 0} (n : ℕ) (room : WithSpare T) : Type 0 where
  pub empty : room.list ≡ []
  pub room_for : n ≤ room.spare

-- so many lists, each with room for one item
pub record ArePlaces {T : Type 0} (n : ℕ) (places : List (WithSpare T)) : Type 0 where
  pub count : length places ≡ n
  pub each : Each (HasRoom 1) places

module _ {V A D : Type 0} where
  pub record AreRooms (n : ℕ) (rooms : Rooms V A D) : Type 0 where
    pub shares : HasRoom n rooms.shares
    pub tickets : HasRoom n rooms.tickets
    pub minds : HasRoom n rooms.minds

  -- each mind with its thought and its place
  abbrev pub waits_one : (V × Option Thought) × WithSpare (Sharer V A D) → Waiting V A D
  waits_one p = record { mind = p.0.0; thought = p.0.1; place = p.1 }

  abbrev pub waits : List V → List (Option Thought) → List (WithSpare (Sharer V A D)) → List (Waiting V A D)
  waits minds thoughts places = map waits_one (zip (zip minds thoughts) places)

  -- the agents that wait: their minds, their thoughts, and a place for each
  pub record AreWaiting (minds : List V) (thoughts : List (Option Thought)) (waiting : List (Waiting V A D)) : Type 0 where
    pub minds_are : map (λ (w : Waiting V A D). w.mind) waiting ≡ minds
    pub thoughts_are : map (λ (w : Waiting V A D). w.thought) waiting ≡ thoughts
    pub places : Each (λ (w : Waiting V A D). HasRoom 1 w.place) waiting

  -- an agent with its ticket
  abbrev pub sharer_of : Ticket A D → Waiting V A D → Sharer V A D
  sharer_of t w = record { number = t.number; ticket = t; mind = w.mind; thought = w.thought }

  abbrev pub dealt : List (Ticket A D) → List (Waiting V A D) → List (Sharer V A D)
  dealt [] ws = []
  dealt (t ∷ ts) [] = []
  dealt (t ∷ ts) (w ∷ ws) = sharer_of t w ∷ dealt ts ws

  -- the agents of all shares, in order
  abbrev pub all_of : List (Share V A D) → List (Sharer V A D)
  all_of [] = []
  all_of (s ∷ ss) = s.sharers ++ all_of ss

  abbrev pub tickets_of : List (Sharer V A D) → List (Ticket A D)
  tickets_of sharers = map (λ (s : Sharer V A D). s.ticket) sharers

  abbrev pub minds_of : List (Sharer V A D) → List V
  minds_of sharers = map (λ (s : Sharer V A D). s.mind) sharers

  abbrev pub thoughts_of : List (Sharer V A D) → List (Option Thought)
  thoughts_of sharers = map (λ (s : Sharer V A D). s.thought) sharers

  -- these sharers were taken apart, into what there was room for
  pub record Parted (done : List (Sharer V A D)) (tickets left_tickets : WithSpare (Ticket A D)) (minds left_minds : WithSpare V) : Type 0 where
    pub tickets_are : left_tickets.list ≡ tickets.list ++ tickets_of done
    pub minds_are : left_minds.list ≡ minds.list ++ minds_of done
    pub ticket_room : left_tickets.spare + length done ≡ tickets.spare
    pub mind_room : left_minds.spare + length done ≡ minds.spare
