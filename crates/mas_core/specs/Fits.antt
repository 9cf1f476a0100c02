-- How minds, and the thoughts of cycles that are not ended, fit a board.
use Rattle.std.specs.Prelude.{ℕ, ◌≡◌, ◌-◌, Bool, true, false, if◌then◌else◌, IfSome, List, [], ◌∷◌, ◌++◌, length, slice_get, slice_set, Option, None, Some}
use Rattle.mas_mind.specs.declared.mind.Input.{Input}
use Rattle.mas_mind.specs.declared.mind.Thought.{Thought}
use Rattle.mas_mind.specs.Minds.{Kind, IsAgent, AreLawful, asks_feedback}
use Rattle.mas_mind.specs.Thoughts.{Thinks}
use Rattle.mas_board.specs.declared.seats.Phase.{Phase}
use Rattle.mas_board.specs.declared.seats.Phase.TheVariants.{Idle, Busy, Left as Gone}
use Rattle.mas_board.specs.declared.seats.AgentPlace.{AgentPlace}
use Rattle.mas_board.specs.Boards.{State, Noted, seat_at, seat_of}
use Rattle.mas_core.specs.Platform.{Platform}

-- ---- minds that are handed in with a board

-- a mind of this agent: it knows its number and that of all agents, it has made as many cycles as the board counts, and
-- it awaits feedback only where the agent is busy
pub record IsMindOf {V : Type 0} (k : Kind V) (s : State) (a : ℕ) (m : V) : Type 0 where
  pub me : k.me m ≡ a
  pub agents : k.agents m ≡ length s.seats
  pub made : k.made m ≡ (seat_at s a).cycle
  pub awaits : k.awaits m ≡ true → (seat_at s a).phase ≡ Busy

-- one mind for each agent, in order
pub record AreMindsOf {V : Type 0} (k : Kind V) (s : State) (minds : List V) : Type 0 where
  pub number : length minds ≡ length s.seats
  pub each : (a : ℕ) → IsAgent (length s.seats) a → IfSome (slice_get minds (a - 1)) (IsMindOf k s a)

-- a board on which no turn was made, and which was not halted, and the minds of its agents
pub record Start {V : Type 0} (k : Kind V) (b : Noted) (minds : List V) : Type 0 where
  pub unplayed : b.schedule ≡ []
  pub running : b.halted ≡ false
  pub fit : AreMindsOf k b.state minds

-- ---- minds and thoughts during a run

-- the thought of an agent in this phase: a busy one has thought, and awaits feedback where its outs have an action; no other
-- has a thought
abbrev pub ThoughtFits : {V : Type 0} → Kind V → ℕ → ℕ → Phase → V → Option Thought → Type 0
ThoughtFits k agents a Idle m t = (k.awaits m ≡ false) × (t ≡ None)
ThoughtFits k agents a Busy m None = ⊥
ThoughtFits k agents a Busy m (Some t) = (k.awaits m ≡ asks_feedback t) × AreLawful a agents t
ThoughtFits k agents a (Gone end) m t = t ≡ None

pub record MindFits {V : Type 0} (k : Kind V) (agents a : ℕ) (seat : AgentPlace) (m : V) (t : Option Thought) : Type 0 where
  pub me : k.me m ≡ a
  pub agents_are : k.agents m ≡ agents
  pub made : k.made m ≡ seat.cycle
  pub thought : ThoughtFits k agents a seat.phase m t

abbrev pub FitsAt : {V : Type 0} → Kind V → ℕ → ℕ → AgentPlace → Option V → Option (Option Thought) → Type 0
FitsAt k agents a seat (Some m) (Some t) = MindFits k agents a seat m t
FitsAt k agents a seat _ _ = ⊥

pub record AllFit {V : Type 0} (k : Kind V) (seats : List AgentPlace) (minds : List V) (thoughts : List (Option Thought)) : Type 0 where
  pub minds_are : length minds ≡ length seats
  pub thoughts_are : length thoughts ≡ length seats
  pub each : (a : ℕ) → IsAgent (length seats) a → FitsAt k (length seats) a (seat_of seats a) (slice_get minds (a - 1)) (slice_get thoughts (a - 1))

-- what holds of a board with minds and thoughts
pub record IsPlay {V : Type 0} (k : Kind V) (b : Noted) (minds : List V) (thoughts : List (Option Thought)) : Type 0 where
  pub fit : AllFit k b.state.seats minds thoughts
  pub running : b.halted ≡ false

-- ---- a turn, and the calls that it is made of

-- a platform and the schedule of its turns
pub record Played (V : Type 0) : Type 0 where
  pub platform : Platform V
  pub schedule : List ℕ

-- what a call for the turn of the agent of this number answers and leaves
pub record TurnMade {V : Type 0} (turned : Option (Platform V)) (old new : Played V) (a : ℕ) (made : Bool) : Type 0 where
  pub turn : turned ≡ (if made then Some new.platform else None)
  pub schedule : new.schedule ≡ (if made then old.schedule ++ (a ∷ []) else old.schedule)
  pub refused : made ≡ false → new ≡ old

-- the mind of an agent made a cycle on the input, with this thought
pub record HasThought {V : Type 0} (k : Kind V) (old new : List V) (a : ℕ) (input : Input) (t : Thought) : Type 0 where
  pub mind : V
  pub after : V
  pub is : slice_get old (a - 1) ≡ Some mind
  pub thinks : Thinks k mind input after t
  pub minds : new ≡ slice_set old (a - 1) after
