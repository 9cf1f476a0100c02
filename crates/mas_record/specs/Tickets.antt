-- What a caller sees of a ticket, and what the calls promise.
use Rattle.std.specs.Prelude.{◌≡◌, ℕ, ◌<◌, ◌+◌, ◌⊎◌, Bool, false, Option, None, Some, Result, Ok, Err, List, [], ◌∷◌, ◌++◌, length}
use Rattle.std.specs.Option.{option_to_list}
use Rattle.crossbeam_queue.specs.Passes.{view, IsPassOf}
use Rattle.asl_term.specs.declared.sequence.Starved.{Starved}
use Rattle.mas_board_lists.specs.Lists.{StartsWith, Each, Row, times}
use Rattle.mas_record_disk.specs.Disk.{DiskState}
use Rattle.mas_record_disk.specs.declared.disk.DiskFail.{DiskFail}
use Rattle.mas_record_journal.specs.declared.journal.Journal.{Journal}
use Rattle.mas_mind.specs.declared.mind.Input.{Input}
use Rattle.mas_mind.specs.declared.mind.Outs.{Outs}
use Rattle.mas_mind.specs.declared.mind.Feedback.{Feedback}
use Rattle.mas_mind.specs.declared.mind.End.TheVariants.{Budget}
use Rattle.mas_board.specs.declared.seats.Phase.{Phase}
use Rattle.mas_board.specs.declared.seats.Sensed.{Sensed}
use Rattle.mas_board.specs.declared.seats.Sensed.TheVariants as answer
use Rattle.mas_board.specs.Boards.{Noted, seat_at}
use Rattle.mas_board.specs.Seating.{HasSensed, SenseLeaves, HasEmitted, HasLeft, IsInputFor}
use Rattle.mas_board_turns.specs.declared.turn.Turn.{Turn}
use Rattle.mas_board_turns.specs.declared.turn.Turn.TheVariants as turn
use Rattle.mas_board_turns.specs.Turns.{Entry, Plays, of, phase_after, cycles_in}
use Rattle.mas_board_turns.specs.Answers.{sensed}
use Rattle.mas_board_turns.specs.declared.view.SideView.{SideView}
use Rattle.mas_board_turns.specs.Views.{Opening, no_opening}
use Rattle.mas_board_turns.specs.Steps.{of_first, Sits, Made, Stands}
use Rattle.mas_board_turns.specs.Rule.{order}
use Rattle.mas_record.specs.declared.deck.Deck.{Deck}
use Rattle.mas_record.specs.declared.deck.DeckFault.{DeckFault}
use Rattle.mas_record.specs.declared.deck.DeckFault.TheVariants as fault
use Rattle.mas_record.specs.declared.recorder.Recorder.{Recorder}
use Rattle.mas_record.specs.declared.side.DeckView.{DeckView}
use Rattle.mas_record.specs.declared.ticket.Ticket.{Ticket}
use Rattle.mas_record.specs.Faults.{fault_of}
use Rattle.mas_record.specs.Rule.{IsJournalled, IsKept, opening}
use Rattle.mas_record.specs.Entries.{Entered, IsWritten, IsTornNow, IsAsItWas, IsSeen}
use Rattle.mas_record.specs.Views.{took, entered_by}
use Rattle.mas_record.specs.Standing.{IsStill}

-- ---- answers

-- what a call answers: the board's answer, where the journal took the turn
abbrev pub written_value : {T : Type 0} → T → Result (Unit {0}) DiskFail → Result T DeckFault
written_value value (Ok u) = Ok value
written_value value (Err f) = Err (fault_of f)

abbrev pub answered : {T : Type 0} → Result T Starved → Result (Unit {0}) DiskFail → Result T DeckFault
answered (Ok value) written = written_value value written
answered (Err e) written = Err fault.Memory

-- ---- what becomes of the journal, by the answer

-- Halted comes exactly where the journal was torn
abbrev pub HasEntry : Sensed → Entered → Type 0
HasEntry (answer.Input input) e = IsWritten e
HasEntry (answer.Left end) e = IsWritten e
HasEntry (answer.Ahead cycle least) e = (e.torn_before ≡ None) × IsAsItWas e
HasEntry answer.Halted e = (why : DiskFail) × (e.torn_before ≡ Some why) × IsAsItWas e

-- nothing was made; or a turn was made, and the journal did not take it
abbrev pub HasFault : DeckFault → Option Turn → Entered → Type 0
HasFault f None e = (f ≡ fault.Memory) × (e.torn_before ≡ None) × IsAsItWas e
HasFault f (Some turn) e = (why : DiskFail) × (f ≡ fault_of why) × IsTornNow e why

-- on a torn journal nothing is made, and the answer is the refusal that it keeps
pub record WasTorn (f : DeckFault) (made : Option Turn) (e : Entered) : Type 0 where
  pub why : DiskFail
  pub nothing : made ≡ None
  pub torn : e.torn_before ≡ Some why
  pub fault_is : f ≡ fault_of why
  pub same : IsAsItWas e

module _ {A D : Type 0} where
  -- what a ticket knows
  abbrev pub knows : Ticket A D → DeckView D
  knows t = view t.pass

  -- what it knows of the board
  abbrev pub known : Ticket A D → SideView
  known t = (knows t).side

  -- the journal as it was given back, each time, the last one first
  abbrev pub journals_of : Ticket A D → List (Journal D)
  journals_of t = (knows t).left

  -- the turns that its agent has made since the opening, in order
  abbrev pub turns_of : Ticket A D → List Turn
  turns_of t = of_first (known t).turns

  -- the schedule that it has seen
  abbrev pub seen_by : Ticket A D → List ℕ
  seen_by t = (known t).seen

  -- how it stood at the opening
  abbrev pub first_of : Ticket A D → Opening
  first_of t = (known t).first

  -- the board as it was last taken; it counts as halted where the journal was torn
  abbrev pub met_by : Ticket A D → Noted
  met_by t = (known t).met

  -- whether the journal was torn as it was last given back
  abbrev pub left_torn : Ticket A D → Bool
  left_torn t = (known t).halted

  -- the phase to which its agent's turns have led from where it stood at the opening
  abbrev pub phase_of : Ticket A D → Phase
  phase_of t = phase_after (seat_at (first_of t).board.state t.number).phase (turns_of t)

  -- the number of agents
  abbrev pub agents_of : Ticket A D → ℕ
  agents_of t = length (first_of t).board.state.seats

  -- a ticket of this recorder, and whether it has board and journal in hand
  pub record HasTicket (r : Recorder A D) (hand : Bool) (t : Ticket A D) : Type 0 where
    pub pass : IsPassOf r.line t.pass
    pub sits : Sits t.number hand (known t)

  -- a ticket of this recorder
  abbrev pub IsTicketOf : Recorder A D → Ticket A D → Type 0
  IsTicketOf r t = HasTicket r false t

  -- board and journal that a ticket has taken: the board goes on from what it had seen, its agent stands there where its turns
  -- have led it, and both are as they are always kept
  pub record Met (state : D → DiskState) (old new : Ticket A D) (x : Deck A D) : Type 0 where
    pub number : new.number ≡ old.number
    pub goes_on : StartsWith x.board.schedule (seen_by old)
    pub stands : Stands (first_of old).board.state x.board.state (old.number, turns_of old)
    pub latest : times old.number x.board.schedule ≡ times old.number (seen_by old)
    pub taken : knows new ≡ took state (knows old) x
    pub kept : IsKept state (first_of old) x

  -- the journal is given back once; where it is not torn it has the turns that the ticket has seen, and else a beginning of them
  pub record IsGivenBack (old new : Ticket A D) : Type 0 where
    pub journal : Journal D
    pub noted : journals_of new ≡ journal ∷ journals_of old
    pub tells : IsJournalled (seen_by new) journal.turns journal.torn

  -- one exchange of a ticket: the board that it met goes on from what it had seen; a turn was made of it and noted, or nothing
  -- was made; and it was given back so
  pub record Exchanged (old new : Ticket A D) (made : Option Turn) (after : Noted) : Type 0 where
    pub number : new.number ≡ old.number
    pub first : first_of new ≡ first_of old
    pub goes_on : StartsWith (met_by new).schedule (seen_by old)
    pub makes : Made made (met_by new) old.number after
    pub turns : turns_of new ≡ turns_of old ++ option_to_list made
    pub seen : seen_by new ≡ after.schedule
    pub torn : left_torn new ≡ after.halted
    pub stands : Stands (first_of old).board.state (met_by new).state (old.number, turns_of old)
    pub latest : times old.number (met_by new).schedule ≡ times old.number (seen_by old)
    pub recorded : IsGivenBack old new

  -- ---- a Sense

  pub record SenseRecorded (old new : Ticket A D) (s : Sensed) : Type 0 where
    pub after : Noted
    pub entered : Entered
    pub last : entered ≡ entered_by (knows new)
    pub exchanged : Exchanged old new (sensed s) after
    pub seen : IsSeen entered (met_by new) after
    pub answered : HasSensed (met_by new) after old.number s
    pub leaves : SenseLeaves (met_by new) after old.number s
    pub entry : HasEntry s entered

  -- an input that the mind of this agent may be given: it is the agent's, and the mind has made less than the most cycles
  pub record IsGiven (t : Ticket A D) (input : Input) : Type 0 where
    pub input_for : IsInputFor (agents_of t) t.number input
    pub short : (seat_at (first_of t).board.state t.number).cycle + cycles_in (turns_of t) < (first_of t).board.state.cycles

  abbrev pub GivenIf : Ticket A D → Sensed → Type 0
  GivenIf t (answer.Input input) = IsGiven t input
  GivenIf t (answer.Left end) = Unit {0}
  GivenIf t (answer.Ahead cycle least) = Unit {0}
  GivenIf t answer.Halted = Unit {0}

  pub record SenseRefused (old new : Ticket A D) (f : DeckFault) : Type 0 where
    pub made : Option Turn
    pub after : Noted
    pub entered : Entered
    pub last : entered ≡ entered_by (knows new)
    pub exchanged : Exchanged old new made after
    pub seen : IsSeen entered (met_by new) after
    pub cause : HasFault f made entered

  -- ---- an Emit and a Leave

  pub record EmitRecorded (old new : Ticket A D) (outs : Outs) (feedback : Option Feedback) : Type 0 where
    pub after : Noted
    pub entered : Entered
    pub last : entered ≡ entered_by (knows new)
    pub exchanged : Exchanged old new (Some (turn.Emitted outs feedback)) after
    pub seen : IsSeen entered (met_by new) after
    pub answered : HasEmitted (met_by new) after old.number outs feedback
    pub written : IsWritten entered

  pub record LeaveRecorded (old new : Ticket A D) : Type 0 where
    pub after : Noted
    pub entered : Entered
    pub last : entered ≡ entered_by (knows new)
    pub exchanged : Exchanged old new (Some turn.Gone) after
    pub seen : IsSeen entered (met_by new) after
    pub answered : HasLeft (met_by new) after old.number Budget
    pub written : IsWritten entered

  pub record TurnRefused (old new : Ticket A D) (f : DeckFault) : Type 0 where
    pub made : Option Turn
    pub after : Noted
    pub entered : Entered
    pub last : entered ≡ entered_by (knows new)
    pub exchanged : Exchanged old new made after
    pub seen : IsSeen entered (met_by new) after
    pub cause : HasFault f made entered ⊎ WasTorn f made entered

  -- ---- the opening and the close

  pub record IsNew (r : Recorder A D) (o : Opening) (k : ℕ) (t : Ticket A D) : Type 0 where
    pub ticket : IsTicketOf r t
    pub number : t.number ≡ k
    pub silent : turns_of t ≡ []
    pub first : first_of t ≡ o

  -- one ticket for each agent, in order
  pub record Opened (state : D → DiskState) (x : Deck A D) (r : Recorder A D) (tickets : List (Ticket A D)) : Type 0 where
    pub count : length tickets ≡ length x.board.state.seats
    pub each : Row (IsNew r (opening state x)) 1 tickets

  pub record IsBack (r : Recorder A D) (k : ℕ) (t : Ticket A D) : Type 0 where
    pub ticket : IsTicketOf r t
    pub number : t.number ≡ k

  -- how it stood when the tickets were opened
  abbrev pub first_by : List (Ticket A D) → Opening
  first_by [] = no_opening
  first_by (t ∷ ts) = first_of t

  -- the tickets of all agents, in order
  pub record AllBack (r : Recorder A D) (tickets : List (Ticket A D)) : Type 0 where
    pub some : 0 < length tickets
    pub each : Row (IsBack r) 1 tickets
    pub all : length tickets ≡ length (first_by tickets).board.state.seats

  -- one log leads from the first board to this one; after the opening it is in the order of the schedule, and it has the turns of
  -- each ticket; what each ticket has seen is a beginning of the schedule; board and journal are as they are always kept; and at no
  -- moment since a ticket gave the journal back would a crash have left less than what it had then
  pub record Closed (state : D → DiskState) (tickets : List (Ticket A D)) (x : Deck A D) : Type 0 where
    pub log : List Entry
    pub plays : Plays (first_by tickets).board.state log x.board.state
    pub scheduled : order (first_by tickets) log ≡ x.board.schedule
    pub turns : Each (λ (t : Ticket A D). of t.number log ≡ turns_of t) tickets
    pub seen : Each (λ (t : Ticket A D). StartsWith x.board.schedule (seen_by t)) tickets
    pub kept : IsKept state (first_by tickets) x
    pub still : Each (λ (t : Ticket A D). Each (IsStill state x.journal) (journals_of t)) tickets
