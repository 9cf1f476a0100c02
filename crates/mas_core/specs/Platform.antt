-- The platform over any meaning V of minds: a turn of one agent, and the run along a list of agents' numbers.
use Rattle.std.specs.Prelude.{ℕ, ◌+◌, ◌-◌, nat_le, Bool, true, ◌&&◌, if◌then◌else◌, Option, None, Some}
use Rattle.std.specs.Prelude.{List, [], ◌∷◌, length, replicate, slice_get, slice_set}
use Rattle.mas_mind.specs.declared.mind.Input.{Input}
use Rattle.mas_mind.specs.declared.mind.Feedback.{Feedback}
use Rattle.mas_mind.specs.declared.mind.Thought.{Thought}
use Rattle.mas_mind.specs.declared.mind.Thought.TheVariants.{Outs as Acts, Spent}
use Rattle.mas_mind.specs.Minds.{Cycled, Kind}
use Rattle.mas_board.specs.declared.seats.Phase.{Phase}
use Rattle.mas_board.specs.declared.seats.Phase.TheVariants.{Idle, Busy, Left as Gone}
use Rattle.mas_board.specs.declared.seats.AgentPlace.{AgentPlace}
use Rattle.mas_board.specs.declared.seats.Sensed.{Sensed}
use Rattle.mas_board.specs.declared.seats.Sensed.TheVariants.{Input as Given, Left}
use Rattle.mas_board.specs.Boards.{State, sense, emit, leave, seat_at, is_gone}

-- the board, and for each agent its mind and, while it is busy, the thought of its last cycle: the outs of a cycle, or
-- that its budget was spent
pub record Platform (V : Type 0) : Type 0 where
  pub board : State
  pub minds : List V
  pub thoughts : List (Option Thought)

-- what an agent has thought in a cycle that is not ended
abbrev pub thought_or_none : Option (Option Thought) → Option Thought
thought_or_none None = None
thought_or_none (Some t) = t

abbrev pub thought_at : List (Option Thought) → ℕ → Option Thought
thought_at thoughts a = thought_or_none (slice_get thoughts (a - 1))

-- ---- the turn of an idle agent

abbrev pub with_board : {V : Type 0} → Platform V → State → Platform V
with_board p board = record { board = board; minds = p.minds; thoughts = p.thoughts }

-- a mind made a cycle
abbrev pub thought_by : {V : Type 0} → Platform V → ℕ → State → Cycled V → Platform V
thought_by p a board c = record { board = board; minds = slice_set p.minds (a - 1) c.mind; thoughts = slice_set p.thoughts (a - 1) (Some c.thought) }

abbrev pub think : {V : Type 0} → Kind V → Platform V → ℕ → State → Input → Option V → Option (Platform V)
think k p a board input None = None
think k p a board input (Some m) = Some (thought_by p a board (k.cycle m input))

-- the mind thinks on its input, or the agent has left, or there is no turn
abbrev pub after_sense : {V : Type 0} → Kind V → Platform V → ℕ → Sensed × State → Option (Platform V)
after_sense k p a (Given input, board) = think k p a board input (slice_get p.minds (a - 1))
after_sense k p a (Left end, board) = Some (with_board p board)
after_sense k p a (waits, board) = None

-- ---- the turn of a busy agent

-- the mind is told what became of its action, where there was one
abbrev pub tell : {V : Type 0} → Kind V → List V → ℕ → Option V → Option Feedback → List V
tell k minds a None feedback = minds
tell k minds a (Some m) None = minds
tell k minds a (Some m) (Some feedback) = slice_set minds (a - 1) (k.took m feedback)

abbrev pub after_emit : {V : Type 0} → Kind V → Platform V → ℕ → Option Feedback × State → Platform V
after_emit k p a (feedback, board) =
    record { board = board; minds = tell k p.minds a (slice_get p.minds (a - 1)) feedback; thoughts = slice_set p.thoughts (a - 1) None }

abbrev pub after_leave : {V : Type 0} → Platform V → ℕ → State → Platform V
after_leave p a board = record { board = board; minds = p.minds; thoughts = slice_set p.thoughts (a - 1) None }

-- an Emit of its outs, or a Leave where its budget was spent
abbrev pub after_thought : {V : Type 0} → Kind V → Platform V → ℕ → Option (Option Thought) → Option (Platform V)
after_thought k p a None = None
after_thought k p a (Some None) = None
after_thought k p a (Some (Some (Acts outs))) = Some (after_emit k p a (emit p.board a outs))
after_thought k p a (Some (Some Spent)) = Some (after_leave p a (leave p.board a))

-- ---- turns and runs

abbrev pub turn_in : {V : Type 0} → Kind V → Platform V → ℕ → Phase → Option (Platform V)
turn_in k p a Idle = after_sense k p a (sense p.board a)
turn_in k p a Busy = after_thought k p a (slice_get p.thoughts (a - 1))
turn_in k p a (Gone end) = None

abbrev pub is_agent : ℕ → ℕ → Bool
is_agent agents a = nat_le 1 a && nat_le a agents

-- rule: the turn of the agent of this number: none where no agent has it, or where that agent has no turn; it is legal where there is one
abbrev pub turn : {V : Type 0} → Kind V → Platform V → ℕ → Option (Platform V)
turn k p a = if is_agent (length p.board.seats) a then turn_in k p a (seat_at p.board a).phase else None

abbrev pub and_run : {V : Type 0} → (Platform V → Option (Platform V)) → Option (Platform V) → Option (Platform V)
and_run f None = None
and_run f (Some p) = f p

-- rule: the run along a schedule: the fold of the turns, each of which is legal where it stands
abbrev pub run : {V : Type 0} → Kind V → Platform V → List ℕ → Option (Platform V)
run k p [] = Some p
run k p (a ∷ schedule) = and_run (λ q. run k q schedule) (turn k p a)

-- rule: every agent has left
abbrev pub ended : List AgentPlace → Bool
ended [] = true
ended (seat ∷ seats) = is_gone seat.phase && ended seats

-- the number, counted from this one, of the first agent that has not left
abbrev pub first_here : ℕ → List AgentPlace → Option ℕ
first_here a [] = None
first_here a (seat ∷ seats) = if is_gone seat.phase then first_here (a + 1) seats else Some a

-- the platform at the start
abbrev pub opening_platform : {V : Type 0} → State → List V → Platform V
opening_platform board minds = record { board = board; minds = minds; thoughts = replicate (length minds) None }
