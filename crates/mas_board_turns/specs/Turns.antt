-- Turns that are kept, one after another: the board to which they lead, the numbers in whose order they stand, and of each agent its own.
use Rattle.std.specs.Prelude.{ℕ, ◌≡◌, ◌+◌, nat_eq, if◌then◌else◌, Bool, false, List, [], ◌∷◌}
use Rattle.mas_mind.specs.declared.mind.End.TheVariants.{Budget}
use Rattle.mas_board.specs.declared.seats.Phase.{Phase}
use Rattle.mas_board.specs.declared.seats.Phase.TheVariants.{Idle, Busy, Left as Away}
use Rattle.mas_board.specs.declared.seats.Sensed.TheVariants as answer
use Rattle.mas_board.specs.Boards.{State, sense, emit, leave}
use Rattle.mas_board.specs.Seating.{IsAt}
use Rattle.mas_board_turns.specs.declared.turn.Turn.{Turn}
use Rattle.mas_board_turns.specs.declared.turn.Turn.TheVariants.{Sensed, Left, Emitted, Gone}

-- the turn of this agent leads from one state of the board to another: the input, the end and the feedback are those that the board gives
abbrev pub Makes : State → ℕ → Turn → State → Type 0
Makes s a (Sensed input) t = IsAt s a Idle × ((answer.Input input, t) ≡ sense s a)
Makes s a (Left end) t = IsAt s a Idle × ((answer.Left end, t) ≡ sense s a)
Makes s a (Emitted outs feedback) t = IsAt s a Busy × ((feedback, t) ≡ emit s a outs)
Makes s a Gone t = IsAt s a Busy × (t ≡ leave s a)

-- a turn, and whose it is
pub record Entry : Type 0 where
  pub by : ℕ
  pub turn : Turn

abbrev pub entry : ℕ → Turn → Entry
entry a turn = record { by = a; turn = turn }

-- the turns of the log, made in their order, lead from one state of the board to another
abbrev pub Plays : State → List Entry → State → Type 0
Plays s [] t = s ≡ t
Plays s (e ∷ log) t = (next : State) × Makes s e.by e.turn next × Plays next log t

-- the numbers of the agents that made the turns
abbrev pub names : List Entry → List ℕ
names [] = []
names (e ∷ log) = e.by ∷ names log

-- the turns of one agent
abbrev pub of : ℕ → List Entry → List Turn
of a [] = []
of a (e ∷ log) = if nat_eq e.by a then e.turn ∷ of a log else of a log

-- ---- where an agent stands after its turns

-- the phase in which a turn leaves its agent
abbrev pub phase_of : Turn → Phase
phase_of (Sensed input) = Busy
phase_of (Left end) = Away end
phase_of (Emitted outs feedback) = Idle
phase_of Gone = Away Budget

abbrev pub phase_after : Phase → List Turn → Phase
phase_after phase [] = phase
phase_after phase (turn ∷ turns) = phase_after (phase_of turn) turns

-- the cycles that a turn begins
abbrev pub cycle_of : Turn → ℕ
cycle_of (Sensed input) = 1
cycle_of (Left end) = 0
cycle_of (Emitted outs feedback) = 0
cycle_of Gone = 0

abbrev pub cycles_in : List Turn → ℕ
cycles_in [] = 0
cycles_in (turn ∷ turns) = cycle_of turn + cycles_in turns

-- whether an agent has a mark after a turn: a Sense with an input clears it, and a cycle that was quiet sets it
abbrev pub mark_of : Bool → Turn → Bool
mark_of was (Sensed input) = false
mark_of was (Left end) = was
mark_of was (Emitted outs feedback) = outs.quiet
mark_of was Gone = was

abbrev pub mark_after : Bool → List Turn → Bool
mark_after was [] = was
mark_after was (turn ∷ turns) = mark_after (mark_of was turn) turns
