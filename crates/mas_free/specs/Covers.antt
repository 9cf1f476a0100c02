-- The laws of the free machine: each turn of the platform is one move of it or none; and every run that ends, none of its agents cut off, comes to what
-- the free machine comes to at some rest.
use Rattle.std.specs.Prelude.{ℕ, ◌≡◌, ◌⊎◌, true, List, length, slice_get, Some, All}
use Rattle.mas_mind.specs.Minds.{Kind, IsAgent}
use Rattle.mas_world.specs.Worlds.{World}
use Rattle.mas_board.specs.Boards as boards
use Rattle.mas_core.specs.Platform.{Platform, turn, run, ended, opening_platform}
use Rattle.mas_free.specs.declared.view.View.{View}
use Rattle.mas_free.specs.Alike.{Alike, IsPlain}
use Rattle.mas_free.specs.Outcome.{outcome, uncut}
use Rattle.mas_free.specs.Free.{Free, move, walk, AtRest, opening, at_end}
use Rattle.mas_free.specs.Forgets.{Forgets}

-- ---- a turn

-- the agent's move leads from f to what is left of q
pub record MovesTo {V : Type 0} (k : Kind V) (v : View) (f : Free V) (a : ℕ) (q : Platform V) : Type 0 where
  pub next : Free V
  pub moved : move k f a ≡ Some next
  pub left : Forgets k v q next

-- what is left of a platform stays with a turn, or the agent's move leads to what is left after it
abbrev pub TurnsMove : {V : Type 0} → Kind V → Type 0
TurnsMove {V} k =
    (v : View) (p q : Platform V) (f : Free V) (a : ℕ) → Forgets k v p f → turn k p a ≡ Some q → Forgets k v q f ⊎ MovesTo k v f a q

-- ---- a run

-- what a run begins with, its limits aside
pub record Start (V : Type 0) : Type 0 where
  pub names : List (List ℕ)
  pub world : World
  pub minds : List V

-- the platform at the start, under these limits
abbrev pub opening_at : {V : Type 0} → Start V → ℕ → ℕ → Platform V
opening_at s cycles lead = opening_platform (boards.opening s.names s.world cycles lead) s.minds

abbrev pub free_opening : {V : Type 0} → Start V → Free V
free_opening s = opening s.names s.world s.minds

-- a mind for each name, which is plain
pub record IsStart {V : Type 0} (k : Kind V) (s : Start V) : Type 0 where
  pub number : length s.minds ≡ length s.names
  pub plain : All (IsPlain k) s.minds

-- under these limits the schedule is legal from the start, and leads to q; all agents have left, none of them for the limit of cycles
pub record RunsTo {V : Type 0} (k : Kind V) (s : Start V) (cycles lead : ℕ) (schedule : List ℕ) (q : Platform V) : Type 0 where
  pub ran : run k (opening_at s cycles lead) schedule ≡ Some q
  pub ended_is : ended q.board.seats ≡ true
  pub uncut_is : uncut q.board.seats ≡ true

-- the free machine comes to rest with the outcome of q
pub record ComesTo {V : Type 0} (k : Kind V) (v : View) (f : Free V) (q : Platform V) : Type 0 where
  pub way : List ℕ
  pub rest : Free V
  pub walked : walk k f way ≡ Some rest
  pub rests : AtRest k rest
  pub same : outcome k v (at_end rest) ≡ outcome k v q

-- whatever the limits are
abbrev pub CoversRuns : {V : Type 0} → Kind V → Type 0
CoversRuns {V} k =
    (v : View) (s : Start V) (cycles lead : ℕ) (schedule : List ℕ) (q : Platform V) → IsStart k s → RunsTo k s cycles lead schedule q →
    ComesTo k v (free_opening s) q

-- ---- states that no move leaves

-- this is one of these
pub record IsMember {X : Type 0} (x : X) (xs : List X) : Type 0 where
  pub place : ℕ
  pub at : slice_get xs place ≡ Some x

-- two states that differ in nothing but their minds, and each mind of the one is alike to that of the same agent of the other
pub record IsLike {V : Type 0} (k : Kind V) (v : View) (f g : Free V) : Type 0 where
  pub names : f.names ≡ g.names
  pub world : f.world ≡ g.world
  pub boxes : f.boxes ≡ g.boxes
  pub stop : f.stop ≡ g.stop
  pub stages : f.stages ≡ g.stages
  pub number : length f.minds ≡ length g.minds
  pub minds : (place : ℕ) (m n : V) → slice_get f.minds place ≡ Some m → slice_get g.minds place ≡ Some n → Alike k v m n

-- this state is like one of these
pub record HasLike {V : Type 0} (k : Kind V) (v : View) (f : Free V) (met : List (Free V)) : Type 0 where
  pub like : Free V
  pub among : IsMember like met
  pub is : IsLike k v f like

-- this state is like one of these, and so is each to which an agent's move leads from one of them
pub record IsClosed {V : Type 0} (k : Kind V) (v : View) (f : Free V) (met : List (Free V)) : Type 0 where
  pub first : HasLike k v f met
  pub next : (g h : Free V) (a : ℕ) → IsMember g met → IsAgent (length g.stages) a → move k g a ≡ Some h → HasLike k v h met

-- one of these is at rest with the outcome of q
pub record HasRest {V : Type 0} (k : Kind V) (v : View) (met : List (Free V)) (q : Platform V) : Type 0 where
  pub rest : Free V
  pub among : IsMember rest met
  pub rests : AtRest k rest
  pub same : outcome k v (at_end rest) ≡ outcome k v q

-- whatever the limits are, one of the states that no move leaves is such a rest
abbrev pub ClosedCovers : {V : Type 0} → Kind V → Type 0
ClosedCovers {V} k =
    (v : View) (s : Start V) (met : List (Free V)) (cycles lead : ℕ) (schedule : List ℕ) (q : Platform V) → IsStart k s → IsClosed k v (free_opening s) met →
    RunsTo k s cycles lead schedule q → HasRest k v met q
