-- What a caller sees of a seat, and what the calls promise.
use Rattle.std.specs.Prelude.{◌≡◌, ℕ, ◌<◌, Bool, false, Option, None, Some, List, [], ◌∷◌, ◌++◌, length}
use Rattle.std.specs.Option.{option_to_list}
use Rattle.crossbeam_queue.specs.Passes.{view, IsPassOf}
use Rattle.mas_board_lists.specs.Lists.{StartsWith, Each, Row, times}
use Rattle.mas_mind.specs.declared.mind.Input.{Input}
use Rattle.mas_mind.specs.declared.mind.Outs.{Outs}
use Rattle.mas_mind.specs.declared.mind.Feedback.{Feedback}
use Rattle.mas_mind.specs.declared.mind.End.TheVariants.{Budget}
use Rattle.mas_board.specs.declared.seats.Phase.{Phase}
use Rattle.mas_board.specs.declared.seats.Phase.TheVariants.{Idle}
use Rattle.mas_board.specs.declared.seats.Sensed.{Sensed}
use Rattle.mas_board.specs.declared.seats.Sensed.TheVariants as answer
use Rattle.mas_board.specs.Boards.{Noted}
use Rattle.mas_board.specs.Seating.{HasSensed, SenseLeaves, HasEmitted, HasLeft, halt, IsInputFor}
use Rattle.mas_board_turns.specs.declared.turn.Turn.{Turn}
use Rattle.mas_board_turns.specs.declared.turn.Turn.TheVariants as turn
use Rattle.mas_board_turns.specs.Turns.{Entry, Plays, names, of, phase_after, cycles_in}
use Rattle.mas_board_turns.specs.Answers.{sensed}
use Rattle.mas_board_turns.specs.declared.view.SideView.{SideView}
use Rattle.mas_board_turns.specs.Views.{no_board}
use Rattle.mas_board_turns.specs.Steps.{of_first, Sits, Made, Stands, took}
use Rattle.mas_baton.specs.declared.baton.Baton.{Baton}
use Rattle.mas_baton.specs.declared.seat.Seat.{Seat}
use Rattle.mas_baton.specs.Rule.{IsFresh}

module _ {A : Type 0} where
  -- what a seat knows
  abbrev pub known : Seat A → SideView
  known s = view s.pass

  -- the turns that its agent has made, in order
  abbrev pub turns_of : Seat A → List Turn
  turns_of s = of_first (known s).turns

  -- the schedule that it has seen
  abbrev pub seen_by : Seat A → List ℕ
  seen_by s = (known s).seen

  -- the board with which it was opened
  abbrev pub first_of : Seat A → Noted
  first_of s = (known s).first.board

  -- the board as it was last taken
  abbrev pub met_by : Seat A → Noted
  met_by s = (known s).met

  -- whether the board was halted as it last gave it back
  abbrev pub left_halted : Seat A → Bool
  left_halted s = (known s).halted

  -- the phase to which its agent's turns have led
  abbrev pub phase_of : Seat A → Phase
  phase_of s = phase_after Idle (turns_of s)

  -- the number of agents
  abbrev pub agents_of : Seat A → ℕ
  agents_of s = length (first_of s).state.seats

  -- a seat of this baton, and whether it has the board in hand; it was opened with a board of which no turn was made
  pub record HasSeat (b : Baton A) (hand : Bool) (s : Seat A) : Type 0 where
    pub pass : IsPassOf b.line s.pass
    pub sits : Sits s.number hand (known s)
    pub fresh : IsFresh (first_of s)

  -- a seat of this baton
  abbrev pub IsSeatOf : Baton A → Seat A → Type 0
  IsSeatOf b s = HasSeat b false s

  -- ---- the exchanges

  -- one exchange of a seat: the board that it met goes on from what it had seen, with no turn of its agent behind that; a turn
  -- was made of it and noted, or nothing was made; and it was given back so
  pub record Exchanged (old new : Seat A) (made : Option Turn) (after : Noted) : Type 0 where
    pub number : new.number ≡ old.number
    pub first : first_of new ≡ first_of old
    pub goes_on : StartsWith (met_by new).schedule (seen_by old)
    pub makes : Made made (met_by new) old.number after
    pub turns : turns_of new ≡ turns_of old ++ option_to_list made
    pub seen : seen_by new ≡ after.schedule
    pub halted : left_halted new ≡ after.halted
    pub stands : Stands (first_of old).state (met_by new).state (old.number, turns_of old)
    pub latest : times old.number (met_by new).schedule ≡ times old.number (seen_by old)

  -- the board that a seat has taken goes on from what it had seen, with no turn of its agent behind that, and its agent stands
  -- there where its turns have led it
  pub record Met (old new : Seat A) (x : Noted) : Type 0 where
    pub number : new.number ≡ old.number
    pub goes_on : StartsWith x.schedule (seen_by old)
    pub stands : Stands (first_of old).state x.state (old.number, turns_of old)
    pub latest : times old.number x.schedule ≡ times old.number (seen_by old)
    pub taken : known new ≡ took (known old) x

  -- the answer is what the board that was met answers
  pub record SenseExchanged (old new : Seat A) (s : Sensed) : Type 0 where
    pub after : Noted
    pub exchanged : Exchanged old new (sensed s) after
    pub answered : HasSensed (met_by new) after old.number s
    pub leaves : SenseLeaves (met_by new) after old.number s

  -- an input that the mind of this agent may be given: it is the agent's, and the mind has made less than the most cycles
  pub record IsGiven (s : Seat A) (input : Input) : Type 0 where
    pub input_for : IsInputFor (agents_of s) s.number input
    pub short : cycles_in (turns_of s) < (first_of s).state.cycles

  abbrev pub GivenIf : Seat A → Sensed → Type 0
  GivenIf s (answer.Input input) = IsGiven s input
  GivenIf s (answer.Left end) = Unit {0}
  GivenIf s (answer.Ahead cycle least) = Unit {0}
  GivenIf s answer.Halted = Unit {0}

  pub record EmitExchanged (old new : Seat A) (outs : Outs) (feedback : Option Feedback) : Type 0 where
    pub after : Noted
    pub exchanged : Exchanged old new (Some (turn.Emitted outs feedback)) after
    pub answered : HasEmitted (met_by new) after old.number outs feedback

  pub record LeaveExchanged (old new : Seat A) : Type 0 where
    pub after : Noted
    pub exchanged : Exchanged old new (Some turn.Gone) after
    pub answered : HasLeft (met_by new) after old.number Budget

  pub record HaltExchanged (old new : Seat A) : Type 0 where
    pub after : Noted
    pub exchanged : Exchanged old new None after
    pub answered : after ≡ halt (met_by new)

  -- nothing was made of the board that was met
  pub record NothingExchanged (old new : Seat A) : Type 0 where
    pub after : Noted
    pub exchanged : Exchanged old new None after
    pub same : after ≡ met_by new

  -- ---- the opening

  -- a seat that has made no turn yet
  pub record IsNew (b : Baton A) (board : Noted) (k : ℕ) (s : Seat A) : Type 0 where
    pub seat : IsSeatOf b s
    pub number : s.number ≡ k
    pub silent : turns_of s ≡ []
    pub first : first_of s ≡ board

  -- one seat for each agent, in order
  pub record Opened (board : Noted) (b : Baton A) (seats : List (Seat A)) : Type 0 where
    pub count : length seats ≡ length board.state.seats
    pub each : Row (IsNew b board) 1 seats

  -- ---- the close

  pub record IsBack (b : Baton A) (k : ℕ) (s : Seat A) : Type 0 where
    pub seat : IsSeatOf b s
    pub number : s.number ≡ k

  -- the board with which the seats were opened
  abbrev pub first_by : List (Seat A) → Noted
  first_by [] = no_board
  first_by (s ∷ ss) = first_of s

  -- the seats of all agents, in order
  pub record AllBack (b : Baton A) (seats : List (Seat A)) : Type 0 where
    pub some : 0 < length seats
    pub each : Row (IsBack b) 1 seats
    pub all : length seats ≡ length (first_by seats).state.seats

  -- one log leads from the first board to this one; it is in the order of the schedule, and has the turns of each seat; and
  -- what each seat has seen is a beginning of the schedule
  pub record Closed (seats : List (Seat A)) (board : Noted) : Type 0 where
    pub log : List Entry
    pub plays : Plays (first_by seats).state log board.state
    pub order : names log ≡ board.schedule
    pub turns : Each (λ (s : Seat A). of s.number log ≡ turns_of s) seats
    pub seen : Each (λ (s : Seat A). StartsWith board.schedule (seen_by s)) seats
