-- What a round asks of its sharers, and what it leaves.
use Rattle.std.specs.Prelude.{◌≡◌, ℕ, ◌+◌, Bool, true, not, if◌then◌else◌, ◌⊎◌, None, List, [], ◌∷◌}
use Rattle.mas_mind.specs.declared.mind.Input.{Input}
use Rattle.mas_mind.specs.declared.mind.Thought.{Thought}
use Rattle.mas_mind.specs.Minds.{Kind}
use Rattle.mas_board.specs.declared.seats.Phase.TheVariants.{Idle}
use Rattle.mas_board.specs.Boards.{is_gone, seat_at}
use Rattle.mas_core.specs.Fits.{ThoughtFits}
use Rattle.mas_board_turns.specs.Turns.{cycles_in}
use Rattle.mas_board_turns.specs.Follows.{Thinking, resting}
use Rattle.mas_board_turns.specs.Cycles.{Standing, Belongs, IsAsked, HasThought, Went}
use Rattle.mas_record.specs.declared.deck.DeckFault.{DeckFault}
use Rattle.mas_record.specs.declared.deck.DeckFault.TheVariants as fault
use Rattle.mas_record.specs.declared.recorder.Recorder.{Recorder}
use Rattle.mas_record.specs.declared.ticket.Ticket.{Ticket}
use Rattle.mas_record.specs.Tickets.{IsTicketOf, turns_of, first_of, left_torn, phase_of, agents_of}
use Rattle.mas_record_rounds.specs.declared.sharer.Sharer.{Sharer}

-- the cycles that the agent of a ticket has made, those before the opening too
abbrev pub cycles_of : {A D : Type 0} → Ticket A D → ℕ
cycles_of t = (seat_at (first_of t).board.state t.number).cycle + cycles_in (turns_of t)

module _ {V A D : Type 0} where
  -- ---- how a sharer stands

  -- what its ticket and its mind are, on the board of the ticket's opening
  abbrev pub standing : Sharer V A D → Standing V
  standing s = record {
    number = s.number;
    right = s.ticket.number;
    board = (first_of s.ticket).board;
    phase = phase_of s.ticket;
    cycles = cycles_of s.ticket;
    mind = s.mind;
  }

  -- a sharer of this recorder: it has a thought exactly where its agent is busy
  pub record Shares (k : Kind V) (r : Recorder A D) (s : Sharer V A D) : Type 0 where
    pub ticket : IsTicketOf r s.ticket
    pub belongs : Belongs k (standing s)
    pub made : k.made s.mind ≡ cycles_of s.ticket
    pub thought : ThoughtFits k (agents_of s.ticket) s.number (phase_of s.ticket) s.mind s.thought

  -- its agent is idle
  pub record SharerRests (k : Kind V) (r : Recorder A D) (s : Sharer V A D) : Type 0 where
    pub shares : Shares k r s
    pub idle : phase_of s.ticket ≡ Idle

  -- a sharer of this recorder that was given this input, and has no thought
  pub record SharerIsAsked (k : Kind V) (r : Recorder A D) (input : Input) (s : Sharer V A D) : Type 0 where
    pub ticket : IsTicketOf r s.ticket
    pub asked : IsAsked k input (standing s)
    pub none : s.thought ≡ None

  -- a sharer of this recorder whose mind has thought so; the thought is no longer kept
  pub record SharerHasThought (k : Kind V) (r : Recorder A D) (thought : Thought) (s : Sharer V A D) : Type 0 where
    pub ticket : IsTicketOf r s.ticket
    pub thinks : HasThought k thought (standing s)
    pub none : s.thought ≡ None

  -- ---- what becomes of it

  abbrev pub thinking_of : Sharer V A D → Thinking V
  thinking_of s = record { mind = s.mind; thought = s.thought }

  -- it is the same agent, with a ticket of the same opening and recorder
  pub record Stays (r : Recorder A D) (old new : Sharer V A D) : Type 0 where
    pub ticket : IsTicketOf r new.ticket
    pub number : new.number ≡ old.number
    pub agent : new.ticket.number ≡ old.ticket.number
    pub first : first_of new.ticket ≡ first_of old.ticket

  -- its ticket gained some turns, through which the mind went from there on; and it has no thought
  pub record SharerWent (k : Kind V) (r : Recorder A D) (start : Thinking V) (old new : Sharer V A D) : Type 0 where
    pub stays : Stays r old new
    pub shares : Shares k r new
    pub none : new.thought ≡ None
    pub way : Went k start (turns_of old.ticket) (turns_of new.ticket) (resting new.mind)

  -- and whether its agent has not left
  pub record GoesOn (k : Kind V) (r : Recorder A D) (start : Thinking V) (old new : Sharer V A D) (here : Bool) : Type 0 where
    pub went : SharerWent k r start old new
    pub here_is : here ≡ not (is_gone (phase_of new.ticket))

  -- a call was refused; a fault of the disk tore the journal in this call, or before it
  pub record IsRefused (r : Recorder A D) (old new : Sharer V A D) (f : DeckFault) : Type 0 where
    pub stays : Stays r old new
    pub torn : f ≡ fault.Disk → left_torn new.ticket ≡ true

  -- ---- all sharers of a round

  -- P of each two that stand at the same place
  abbrev pub Both : (Sharer V A D → Sharer V A D → Type 0) → List (Sharer V A D) → List (Sharer V A D) → Type 0
  Both P [] [] = Unit {0}
  Both P (x ∷ xs) [] = ⊥
  Both P [] (y ∷ ys) = ⊥
  Both P (x ∷ xs) (y ∷ ys) = P x y × Both P xs ys

  -- how many agents have not left
  abbrev pub here_of : List (Sharer V A D) → ℕ
  here_of [] = 0
  here_of (s ∷ ss) = if is_gone (phase_of s.ticket) then here_of ss else 1 + here_of ss

  -- one of them has this property
  abbrev pub Some_of : (Sharer V A D → Type 0) → List (Sharer V A D) → Type 0
  Some_of P [] = ⊥
  Some_of P (x ∷ xs) = P x ⊎ Some_of P xs

  pub record AllWent (k : Kind V) (r : Recorder A D) (old new : List (Sharer V A D)) (here : ℕ) : Type 0 where
    pub each : Both (λ s t. SharerWent k r (thinking_of s) s t) old new
    pub here_is : here ≡ here_of new

  -- a call on the recorder was refused; where it was for a fault of the disk, a ticket has left the journal torn
  pub record AllStay (r : Recorder A D) (old new : List (Sharer V A D)) (f : DeckFault) : Type 0 where
    pub each : Both (Stays r) old new
    pub torn : f ≡ fault.Disk → Some_of (λ s. left_torn s.ticket ≡ true) new
