-- What would come after a platform at which all are quiet, if its agents did not leave for that.
use Rattle.std.specs.Prelude.{ℕ, ◌≡◌, ◌+◌, ◌-◌, ◌*◌, ◌≤◌, true, false, is_some, if◌then◌else◌, List, [], ◌∷◌, length, slice_get, Option, None, Some}
use Rattle.mas_mind.specs.declared.mind.Thought.{Thought}
use Rattle.mas_mind.specs.declared.mind.Thought.TheVariants.{Outs as Acts, Spent}
use Rattle.mas_mind.specs.Minds.{Kind, is_quiet, AreEmpty}
use Rattle.mas_world.specs.Worlds.{World}
use Rattle.mas_board.specs.declared.seats.Phase.{Phase}
use Rattle.mas_board.specs.declared.seats.Phase.TheVariants.{Idle, Busy, Left as Gone}
use Rattle.mas_board.specs.declared.seats.AgentPlace.{AgentPlace}
use Rattle.mas_board.specs.declared.seats.Sensed.{Sensed}
use Rattle.mas_board.specs.declared.seats.Sensed.TheVariants.{Input as Given, Left}
use Rattle.mas_board.specs.Boards.{State, seat_at, is_gone, is_at_limit, is_ahead, all_quiet, left_cycles, left_stopped, ahead, given, opening}
use Rattle.mas_core.specs.Platform.{Platform, is_agent, after_sense, turn_in, and_run, run, ended, opening_platform}

-- ---- turns without the case of quiet

-- `sense` without that case
abbrev pub sense_on : State → ℕ → Sensed × State
sense_on s a =
    if is_at_limit s a then left_cycles s a
    else if s.stop then left_stopped s a
    else if is_ahead s a then ahead s a
    else given s a

-- `turn` with it
abbrev pub turn_in_on : {V : Type 0} → Kind V → Platform V → ℕ → Phase → Option (Platform V)
turn_in_on k p a Idle = after_sense k p a (sense_on p.board a)
turn_in_on k p a Busy = turn_in k p a Busy
turn_in_on k p a (Gone end) = turn_in k p a (Gone end)

abbrev pub turn_on : {V : Type 0} → Kind V → Platform V → ℕ → Option (Platform V)
turn_on k p a = if is_agent (length p.board.seats) a then turn_in_on k p a (seat_at p.board a).phase else None

-- `run` of these turns
abbrev pub run_on : {V : Type 0} → Kind V → Platform V → List ℕ → Option (Platform V)
run_on k p [] = Some p
run_on k p (a ∷ names) = and_run (λ q. run_on k q names) (turn_on k p a)

-- ---- a turn of which nothing comes

-- the thought of the agent's last cycle is quiet
pub record HasQuietThought {V : Type 0} (p : Platform V) (a : ℕ) : Type 0 where
  pub thought : Thought
  pub is : slice_get p.thoughts (a - 1) ≡ Some (Some thought)
  pub quiet : is_quiet thought ≡ true

-- where the agent was given an input, this has no message, and the cycle was quiet
abbrev pub IsQuietSense : {V : Type 0} → Platform V → ℕ → Sensed → Type 0
IsQuietSense q a (Given input) = (input.message ≡ None) × HasQuietThought q a
IsQuietSense q a (Left end) = Unit {0}
IsQuietSense q a waits = Unit {0}

-- the outs have no action and no messages, and do not stop the run
abbrev pub AreQuietOuts : Option (Option Thought) → Type 0
AreQuietOuts (Some (Some (Acts outs))) = AreEmpty outs
AreQuietOuts (Some (Some Spent)) = ⊥
AreQuietOuts (Some None) = ⊥
AreQuietOuts None = ⊥

abbrev pub IsQuietIn : {V : Type 0} → Platform V → ℕ → Platform V → Phase → Type 0
IsQuietIn p a q Idle = IsQuietSense q a (sense_on p.board a).0
IsQuietIn p a q Busy = AreQuietOuts (slice_get p.thoughts (a - 1))
IsQuietIn p a q (Gone end) = ⊥

-- the turn of an agent that leads from p to q
pub record IsQuietTurn {V : Type 0} (p : Platform V) (a : ℕ) (q : Platform V) : Type 0 where
  pub quiet : IsQuietIn p a q (seat_at p.board a).phase
  pub world : q.board.world ≡ p.board.world
  pub version : q.board.version ≡ p.board.version
  pub boxes : q.board.boxes ≡ p.board.boxes
  pub stop : q.board.stop ≡ p.board.stop

-- ---- the laws

-- a run from an opening leads to a platform at which all are quiet
pub record ComesToQuiet {V : Type 0} (k : Kind V) (p : Platform V) : Type 0 where
  pub agents : List (List ℕ)
  pub world : World
  pub cycles : ℕ
  pub lead : ℕ
  pub minds : List V
  pub names : List ℕ
  pub ran : run k (opening_platform (opening agents world cycles lead) minds) names ≡ Some p
  pub quiet : all_quiet p.board ≡ true

-- rule: where all are quiet nothing comes of any turn from then on
abbrev pub QuietLasts : {V : Type 0} → Kind V → Type 0
QuietLasts {V} k =
    (p q r : Platform V) (names : List ℕ) (a : ℕ) → ComesToQuiet k p → run_on k p names ≡ Some q → turn_on k q a ≡ Some r → IsQuietTurn q a r

-- an agent has a turn
pub record HasTurn {V : Type 0} (k : Kind V) (p : Platform V) : Type 0 where
  pub agent : ℕ
  pub turn : is_some (turn_on k p agent) ≡ true

-- where the lead is not 0 and each agent has a mind, some agent has a turn while not all have left
abbrev pub QuietGoesOn : {V : Type 0} → Kind V → Type 0
QuietGoesOn {V} k =
    (p q : Platform V) (names : List ℕ) → ComesToQuiet k p → run_on k p names ≡ Some q → 1 ≤ p.board.lead → length p.minds ≡ length p.board.seats →
    ended q.board.seats ≡ false → HasTurn k q

-- two turns for each cycle that agents that have not left may still make, and one in which each leaves
abbrev pub turns_left : ℕ → List AgentPlace → ℕ
turns_left cycles [] = 0
turns_left cycles (seat ∷ seats) = (if is_gone seat.phase then 0 else 2 * (cycles - seat.cycle) + 1) + turns_left cycles seats

-- and there are so many turns at most
abbrev pub QuietEnds : {V : Type 0} → Kind V → Type 0
QuietEnds {V} k =
    (p q : Platform V) (names : List ℕ) → ComesToQuiet k p → run_on k p names ≡ Some q → length names ≤ turns_left p.board.cycles p.board.seats
