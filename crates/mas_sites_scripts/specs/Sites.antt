-- A site: a platform in which the agents that live at the other site have stands in their places.
use Rattle.std.specs.Prelude.{ℕ, Bool, true, false, ◌≡◌, ◌+◌, ◌-◌, List, [], ◌∷◌, ◌++◌, length, replicate, slice_get, All, Option, None, Some}
use Rattle.mas_mind.specs.declared.mind.Message.{Message}
use Rattle.mas_mind.specs.Minds.{Kind}
use Rattle.mas_board.specs.Boards.{State, Noted, seat_at, sense}
use Rattle.mas_core.specs.Platform.{Platform, turn, run, opening_platform}
use Rattle.mas_core.specs.Replay.{RanAlong}
use Rattle.mas_sites_stand.specs.declared.seated.Seated.{Seated}
use Rattle.mas_sites_stand.specs.declared.seated.Seated.TheVariants as seat
use Rattle.mas_sites_stand.specs.Seats.{seated}
use Rattle.mas_board.specs.declared.seats.Phase.{Phase}
use Rattle.mas_board.specs.declared.seats.Phase.TheVariants.{Idle, Busy, Left as Gone}
use Rattle.mas_board.specs.declared.seats.Sensed.{Sensed}
use Rattle.mas_board.specs.declared.seats.Sensed.TheVariants.{Input as Given, Left, Ahead, Halted}
use Rattle.mas_sites_scripts.specs.Giving.{Placed, IsGiven}
use Rattle.mas_sites_scripts.specs.Scripts.{Script, with_scripts, given, change, at_mind, longer}

-- a site during its run: the platform, the numbers of the agents that made its turns, and for each agent all entries that
-- its stand was given, in order
pub record Sited (V : Type 0) : Type 0 where
  pub platform : Platform (Seated V)
  pub schedule : List ℕ
  pub scripts : List Script

-- the stand of an agent is given an entry
abbrev pub fed : {V : Type 0} → ℕ → Option Message → Sited V → Sited V
fed a e s = record {
  platform = at_mind (a - 1) (given e) s.platform;
  schedule = s.schedule;
  scripts = change (a - 1) (longer e) s.scripts;
}

-- the opening state in which each stand has its whole script
abbrev pub opening_with : {V : Type 0} → State → List (Seated V) → List Script → Platform (Seated V)
opening_with board minds scripts = opening_platform board (with_scripts scripts minds)

-- at one place: what a stand has done and what it is still to do is its whole script
abbrev pub IsUsed : {V : Type 0} → Option (Seated V) → Option (Seated V) → Type 0
IsUsed None None = Unit {0}
IsUsed (Some (seat.Own m)) (Some (seat.Own n)) = Unit {0}
IsUsed (Some (seat.Stand s)) (Some (seat.Stand t)) = s.made + length s.script ≡ t.made + length t.script
IsUsed _ _ = ⊥

-- the turns of a site are a run from the opening state in which each stand has its whole script
pub record IsAlong {V : Type 0} (k : Kind V) (board : State) (minds : List (Seated V)) (now : Sited V) : Type 0 where
  pub number : length now.scripts ≡ length minds
  pub ran : run (seated k) (opening_with board minds now.scripts) now.schedule ≡ Some now.platform
  pub used : (i : ℕ) → IsUsed (slice_get now.platform.minds i) (slice_get (with_scripts now.scripts minds) i)

-- what keeps a site along its scripts
abbrev pub GoesAlong : {V : Type 0} → Kind V → Sited V → Sited V → Type 0
GoesAlong {V} k old new = (board : State) (minds : List (Seated V)) → IsAlong k board minds old → IsAlong k board minds new

-- ---- what the stands of a site used

-- at one place: the number of the cycles that a stand made is the length of its script
abbrev pub IsUsedUp : {V : Type 0} → Option (Seated V) → Option Script → Type 0
IsUsedUp None script = Unit {0}
IsUsedUp (Some (seat.Own m)) script = Unit {0}
IsUsedUp (Some (seat.Stand s)) None = ⊥
IsUsedUp (Some (seat.Stand s)) (Some script) = s.made ≡ length script

-- each stand has used its whole script, an entry in a cycle
abbrev pub AreUsedUp : {V : Type 0} → List (Seated V) → List Script → Type 0
AreUsedUp minds scripts = (i : ℕ) → IsUsedUp (slice_get minds i) (slice_get scripts i)

-- which rounds keep
abbrev pub KeepsUsedUp : {V : Type 0} → Sited V → Sited V → Type 0
KeepsUsedUp old new = AreUsedUp old.platform.minds old.scripts → AreUsedUp new.platform.minds new.scripts

-- ---- a turn of a site

abbrev pub placed : {V : Type 0} → Sited V → Placed V
placed s = record { minds = s.platform.minds; scripts = s.scripts }

abbrev pub with_minds : {V : Type 0} → Platform V → List V → Platform V
with_minds p minds = record { board = p.board; minds = minds; thoughts = p.thoughts }

-- what passes between the sites at a Sense: something where it gives an input, and else nothing
abbrev pub PassesAt : {V C : Type 0} → (C → ℕ → Option Message → C → Type 0) → (C → Message → C → Type 0) →
    C → C → Placed V → Placed V → ℕ → Sensed → Type 0
PassesAt got put from to old new a (Given input) = IsGiven got put from to old new a input.message
PassesAt got put from to old new a (Left end) = (to ≡ from) × (new ≡ old)
PassesAt got put from to old new a (Ahead cycle lowest) = (to ≡ from) × (new ≡ old)
PassesAt got put from to old new a Halted = (to ≡ from) × (new ≡ old)

abbrev pub PassesIn : {V C : Type 0} → (C → ℕ → Option Message → C → Type 0) → (C → Message → C → Type 0) →
    C → C → Sited V → Placed V → ℕ → Phase → Type 0
PassesIn got put from to old new a Idle = PassesAt got put from to (placed old) new a (sense old.platform.board a).0
PassesIn got put from to old new a Busy = (to ≡ from) × (new ≡ placed old)
PassesIn got put from to old new a (Gone end) = (to ≡ from) × (new ≡ placed old)

-- an agent makes its turn, with what was given to its mind before, and the site goes along its scripts
pub record Turned {V C : Type 0} (k : Kind V) (got : C → ℕ → Option Message → C → Type 0) (put : C → Message → C → Type 0)
    (from to : C) (old new : Sited V) (a : ℕ) : Type 0 where
  pub after : Placed V
  pub passes : PassesIn got put from to old after a (seat_at old.platform.board a).phase
  pub turn : turn (seated k) (with_minds old.platform after.minds) a ≡ Some new.platform
  pub scripts : new.scripts ≡ after.scripts
  pub schedule : new.schedule ≡ old.schedule ++ a ∷ []
  pub along : GoesAlong k old new

-- what a call for the turn of an agent answers and leaves: with a turn, or as it was; it goes along its scripts
pub record IsMade {V C : Type 0} (k : Kind V) (got : C → ℕ → Option Message → C → Type 0) (put : C → Message → C → Type 0)
    (from to : C) (old new : Sited V) (a : ℕ) (made : Bool) : Type 0 where
  pub turned : made ≡ true → Turned k got put from to old new a
  pub refused : made ≡ false → (new ≡ old) × (to ≡ from)
  pub none : made ≡ false → turn (seated k) old.platform a ≡ None
  pub along : GoesAlong k old new
  pub number : length new.platform.board.seats ≡ length old.platform.board.seats

-- the same of the turn of a busy agent, which passes nothing to the other site
pub record IsFinished {V : Type 0} (k : Kind V) (old : Sited V) (a : ℕ) (new : Sited V) : Type 0 where
  pub turn : turn (seated k) old.platform a ≡ Some new.platform
  pub scripts : new.scripts ≡ old.scripts
  pub schedule : new.schedule ≡ old.schedule ++ a ∷ []
  pub along : GoesAlong k old new

-- ---- the start

-- a stand with an empty script, that has taken nothing
abbrev pub IsFresh : {V : Type 0} → Seated V → Type 0
IsFresh (seat.Own m) = Unit {0}
IsFresh (seat.Stand s) = (s.script ≡ []) × (s.taken ≡ [])

abbrev pub AreFresh : {V : Type 0} → List (Seated V) → Type 0
AreFresh minds = All IsFresh minds

-- before its first turn, with nothing in the scripts of its stands
abbrev pub opened : {V : Type 0} → State → List (Seated V) → Sited V
opened board minds = record { platform = opening_platform board minds; schedule = []; scripts = replicate (length minds) [] }

-- ---- a whole run

-- what a site begins with: its board, and what sits in the places of the agents
pub record Before (V : Type 0) : Type 0 where
  pub board : State
  pub minds : List (Seated V)

-- what its run comes to, with all entries that its stands were given
pub record After (V : Type 0) : Type 0 where
  pub board : Noted
  pub minds : List (Seated V)
  pub scripts : List Script

abbrev pub before : {V : Type 0} → State → List (Seated V) → Before V
before board minds = record { board = board; minds = minds }

abbrev pub after : {V : Type 0} → Noted → List (Seated V) → List Script → After V
after board minds scripts = record { board = board; minds = minds; scripts = scripts }

-- what a site is let go with
pub record IsClosed {V : Type 0} (s : Sited V) (after : After V) : Type 0 where
  pub board : after.board.state ≡ s.platform.board
  pub schedule : after.board.schedule ≡ s.schedule
  pub minds : after.minds ≡ s.platform.minds
  pub scripts : after.scripts ≡ s.scripts

-- the run along its own schedule, from the opening state in which each stand has its whole script, until every agent has left; the
-- number of the cycles that each stand made is the length of its script: nothing of a script is left unused
pub record RanWhole {V : Type 0} (k : Kind V) (before : Before V) (after : After V) : Type 0 where
  pub number : length after.scripts ≡ length before.minds
  pub ran : RanAlong (seated k) (opening_with before.board before.minds after.scripts) after.board.schedule after.board after.minds
  pub used_up : AreUsedUp after.minds after.scripts
