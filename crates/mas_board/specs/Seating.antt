-- What a call of the board asks for, what it leaves, and what holds of every board.
use Rattle.std.specs.Prelude.{ℕ, ◌≡◌, ◌+◌, ◌<◌, ◌≤◌, ◌^◌, Bool, true, false, if◌then◌else◌, All, IfSome}
use Rattle.std.specs.Prelude.{List, [], ◌∷◌, ◌++◌, length, Option}
use Rattle.mas_mind.specs.Limits.{most_cycles}
use Rattle.mas_mind.specs.declared.mind.Message.{Message}
use Rattle.mas_mind.specs.declared.mind.Input.{Input}
use Rattle.mas_mind.specs.declared.mind.Outs.{Outs}
use Rattle.mas_mind.specs.declared.mind.End.{End}
use Rattle.mas_mind.specs.declared.mind.Feedback.{Feedback}
use Rattle.mas_mind.specs.Minds.{IsAgent, IsFor, are_ground}
use Rattle.mas_board.specs.declared.seats.Phase.{Phase}
use Rattle.mas_board.specs.declared.seats.AgentPlace.{AgentPlace}
use Rattle.mas_board.specs.declared.seats.Sensed.{Sensed}
use Rattle.mas_board.specs.declared.seats.Sensed.TheVariants.{Input as Given, Left, Ahead, Halted}
use Rattle.mas_board.specs.Boards as board
use Rattle.mas_board.specs.Boards.{State, Noted, seat_of, seat_at, box_of, is_gone, begun, left_by, emit, opening}

-- the number is that of an agent, which is in this phase
pub record IsAt (s : State) (a : ℕ) (phase : Phase) : Type 0 where
  pub agent : IsAgent (length s.seats) a
  pub phase_is : (seat_at s a).phase ≡ phase

-- the limits of a board
pub record AreLimits (agents cycles lead : ℕ) : Type 0 where
  pub some : 1 ≤ agents
  pub few : agents < 2 ^ 16
  pub cycle : 1 ≤ cycles
  pub short : cycles ≤ most_cycles
  pub ahead : 1 ≤ lead
  pub close : lead ≤ 1000

-- each message in a box is to that agent, from one of the agents
abbrev pub AreDelivered : ℕ → List (List Message) → Type 0
AreDelivered agents boxes = (a : ℕ) → IsAgent agents a → All (IsFor a agents) (box_of boxes a)

-- no agent that has not left is more than so many cycles ahead of another that has not left
abbrev pub AreLed : ℕ → List AgentPlace → Type 0
AreLed lead seats =
    (a b : ℕ) → IsAgent (length seats) a → IsAgent (length seats) b → is_gone (seat_of seats a).phase ≡ false →
    is_gone (seat_of seats b).phase ≡ false →
    (seat_of seats a).cycle ≤ lead + (seat_of seats b).cycle

-- what holds of the state of every board
pub record IsSound (s : State) : Type 0 where
  pub limits : AreLimits (length s.seats) s.cycles s.lead
  pub named : length s.names ≡ length s.seats
  pub boxed : length s.boxes ≡ length s.seats
  pub within : All (λ (seat : AgentPlace). seat.cycle ≤ s.cycles) s.seats
  pub led : AreLed s.lead s.seats
  pub delivered : AreDelivered (length s.seats) s.boxes

-- how many agents have not left
abbrev pub living : List AgentPlace → ℕ
living [] = 0
living (seat ∷ seats) = if is_gone seat.phase then living seats else 1 + living seats

-- before the first turn a board is as it was opened
abbrev pub Opens : Noted → Type 0
Opens b = b.schedule ≡ [] → b.state ≡ opening b.state.names b.state.world b.state.cycles b.state.lead

-- what holds of every board with its schedule, and of the free places of that
pub record IsBoard (b : Noted) (spare : ℕ) : Type 0 where
  pub sound : IsSound b.state
  pub late : b.state.version ≤ length b.schedule
  pub room : living b.state.seats ≤ spare
  pub opens : Opens b

-- ---- a Sense

-- what a Sense answers, and the state after it: on a halted board nothing happens
abbrev pub sense : Noted → ℕ → Sensed × State
sense b a = if b.halted then (Halted, b.state) else board.sense b.state a

-- what a Sense puts into the schedule
abbrev pub entries : ℕ → Sensed → List ℕ
entries a (Given input) = a ∷ []
entries a (Left end) = a ∷ []
entries a (Ahead cycle lowest) = []
entries a Halted = []

pub record HasSensed (old new : Noted) (a : ℕ) (sensed : Sensed) : Type 0 where
  pub state : (sensed, new.state) ≡ sense old a
  pub schedule : new.schedule ≡ old.schedule ++ entries a sensed
  pub halted : new.halted ≡ old.halted

-- percepts without variables, and a message to the agent from one of the agents
pub record IsInputFor (agents a : ℕ) (input : Input) : Type 0 where
  pub percepts : are_ground input.percepts ≡ true
  pub message : IfSome input.message (IsFor a agents)

pub record HasBegun (old new : State) (a : ℕ) (input : Input) : Type 0 where
  pub short : (seat_at old a).cycle < old.cycles
  pub state : new ≡ begun old a
  pub input_for : IsInputFor (length old.seats) a input

-- the board after a Sense, by its answer, which is Halted exactly where the board was halted
abbrev pub SenseLeaves : Noted → Noted → ℕ → Sensed → Type 0
SenseLeaves old new a (Given input) = (old.halted ≡ false) × HasBegun old.state new.state a input
SenseLeaves old new a (Left end) = (old.halted ≡ false) × (new.state ≡ left_by old.state a end)
SenseLeaves old new a (Ahead cycle lowest) = (old.halted ≡ false) × (new ≡ old)
SenseLeaves old new a Halted = (old.halted ≡ true) × (new ≡ old)

abbrev pub is_input : Sensed → Bool
is_input (Given input) = true
is_input (Left end) = false
is_input (Ahead cycle lowest) = false
is_input Halted = false

-- ---- an Emit and a Leave

pub record HasEmitted (old new : Noted) (a : ℕ) (outs : Outs) (feedback : Option Feedback) : Type 0 where
  pub state : (feedback, new.state) ≡ emit old.state a outs
  pub schedule : new.schedule ≡ old.schedule ++ a ∷ []
  pub halted : new.halted ≡ old.halted

pub record HasLeft (old new : Noted) (a : ℕ) (end : End) : Type 0 where
  pub state : new.state ≡ left_by old.state a end
  pub schedule : new.schedule ≡ old.schedule ++ a ∷ []
  pub halted : new.halted ≡ old.halted

-- ---- a halt

abbrev pub halt : Noted → Noted
halt b = record { state = b.state; schedule = b.schedule; halted = true }
