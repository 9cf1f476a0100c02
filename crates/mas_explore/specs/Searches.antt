-- What a search of the free machine's states promises, over any meaning V of minds. States have numbers from 0.
use Rattle.std.specs.Prelude.{ℕ, ◌≡◌, ◌<◌, ◌≤◌, Bool, true, false, if◌then◌else◌, List, [], ◌∷◌, ◌++◌, length, slice_get, Option, None, Some, MatchBool}
use Rattle.mas_mind.specs.Limits.{most_cycles}
use Rattle.mas_mind.specs.Minds.{Kind, IsAgent}
use Rattle.mas_free.specs.declared.view.View.{View}
use Rattle.mas_free.specs.Outcome.{outcome}
use Rattle.mas_free.specs.Free.{Free, move, AtRest, at_end}
use Rattle.mas_free.specs.Covers.{IsMember, IsLike, HasLike}

-- at most so many states are followed, so that no mind has made more cycles than a mind can make
abbrev pub most_states : ℕ
most_states = most_cycles

-- the free machine comes from its first state to this one, where after each move a state that is like the one to which it led may be taken for that
pub data IsReached {V : Type 0} (k : Kind V) (v : View) (first : Free V) : Free V → Type 0 where
  begun : IsReached k v first first
  moved_on : (f h g : Free V) (a : ℕ) → IsReached k v first f → move k f a ≡ Some h → IsLike k v h g → IsReached k v first g

abbrev pub AreReached : {V : Type 0} → Kind V → View → Free V → List (Free V) → Type 0
AreReached {V} k v first met = (f : Free V) → IsMember f met → IsReached k v first f

-- each state has a stage for each of so many agents
abbrev pub AreSized : {V : Type 0} → ℕ → List (Free V) → Type 0
AreSized {V} agents met = (state : ℕ) (f : Free V) → slice_get met state ≡ Some f → length f.stages ≡ agents

-- the states that were met before keep their numbers
pub record Keeps {V : Type 0} (old new : List (Free V)) : Type 0 where
  pub longer : length old ≤ length new
  pub stay : (state : ℕ) (f : Free V) → slice_get old state ≡ Some f → slice_get new state ≡ Some f

-- what the move leads to, or a state like it, was met; whether there is a move
abbrev pub LeadsInto : {V : Type 0} → Kind V → View → List (Free V) → Option (Free V) → Bool → Type 0
LeadsInto k v met None false = Unit {0}
LeadsInto k v met None true = ⊥
LeadsInto k v met (Some f) false = ⊥
LeadsInto k v met (Some f) true = HasLike k v f met

-- the agent's move from this state was followed, and nothing else
pub record HasFollowed {V : Type 0} (k : Kind V) (v : View) (old new : List (Free V)) (state a : ℕ) (moved : Bool) : Type 0 where
  pub keeps : Keeps old new
  pub reached : (first : Free V) → AreReached k v first old → AreReached k v first new
  pub leads : (f : Free V) → slice_get old state ≡ Some f → LeadsInto k v new (move k f a) moved

-- those of the agents up to this number were
pub record HasFollowedTo {V : Type 0} (k : Kind V) (v : View) (old new : List (Free V)) (state n : ℕ) (moved : Bool) : Type 0 where
  pub keeps : Keeps old new
  pub reached : (first : Free V) → AreReached k v first old → AreReached k v first new
  pub leads : (f h : Free V) (a : ℕ) → slice_get old state ≡ Some f → IsAgent n a → move k f a ≡ Some h → HasLike k v h new
  pub moves : moved ≡ true → (f : Free V) → slice_get old state ≡ Some f → AtRest k f → ⊥
  pub stays : moved ≡ false → (f : Free V) (a : ℕ) → slice_get old state ≡ Some f → IsAgent n a → move k f a ≡ None

-- those of all agents were
pub record HasFollowedAll {V : Type 0} (k : Kind V) (v : View) (old new : List (Free V)) (state : ℕ) (moved : Bool) : Type 0 where
  pub keeps : Keeps old new
  pub reached : (first : Free V) → AreReached k v first old → AreReached k v first new
  pub leads : (f h : Free V) (a : ℕ) → slice_get old state ≡ Some f → IsAgent (length f.stages) a → move k f a ≡ Some h → HasLike k v h new
  pub moves : moved ≡ true → (f : Free V) → slice_get old state ≡ Some f → AtRest k f → ⊥
  pub stays : moved ≡ false → (f : Free V) → slice_get old state ≡ Some f → AtRest k f

-- the states at rest, where no move was found from this one, or one was
abbrev pub noted : List ℕ → ℕ → Bool → List ℕ
noted rests state moved = if moved then rests else rests ++ state ∷ []

-- all moves from the first so many states were followed, and those of them at rest are these
pub record HasSearchedTo {V : Type 0} (k : Kind V) (v : View) (old new : List (Free V)) (rests : List ℕ) (n : ℕ) : Type 0 where
  pub keeps : Keeps old new
  pub reached : (first : Free V) → AreReached k v first old → AreReached k v first new
  pub leads : (state : ℕ) (f h : Free V) (a : ℕ) → state < n → slice_get new state ≡ Some f → IsAgent (length f.stages) a →
      move k f a ≡ Some h → HasLike k v h new
  pub rests_are : (state : ℕ) (f : Free V) → state < n → slice_get new state ≡ Some f → AtRest k f → IsMember state rests
  pub within : (state : ℕ) → IsMember state rests → state < length new
  pub rest : (state : ℕ) (f : Free V) → IsMember state rests → slice_get new state ≡ Some f → AtRest k f

-- no move leaves the states that were met, but for states like them, and those of them at rest are among these
pub record AllSearched {V : Type 0} (k : Kind V) (v : View) (met : List (Free V)) (rests : List ℕ) : Type 0 where
  pub leads : (f h : Free V) (a : ℕ) → IsMember f met → IsAgent (length f.stages) a → move k f a ≡ Some h → HasLike k v h met
  pub rests_are : (state : ℕ) (f : Free V) → slice_get met state ≡ Some f → AtRest k f → IsMember state rests

-- so it is where no more states were met than these; and each of those that were met is reached
pub record HasSearched {V : Type 0} (k : Kind V) (v : View) (old new : List (Free V)) (rests : List ℕ) (most : ℕ) (whole : Bool) : Type 0 where
  pub keeps : Keeps old new
  pub reached : (first : Free V) → AreReached k v first old → AreReached k v first new
  pub within : (state : ℕ) → IsMember state rests → state < length new
  pub rest : (state : ℕ) (f : Free V) → IsMember state rests → slice_get new state ≡ Some f → AtRest k f
  pub extent : MatchBool whole (AllSearched k v new rests × (length new ≤ most)) (most < length new)

-- the text is the outcome of this state, should it be at rest
abbrev pub IsOutcomeAt : {V : Type 0} → Kind V → View → List (Free V) → ℕ → List ℕ → Type 0
IsOutcomeAt {V} k v met state text = (f : Free V) → slice_get met state ≡ Some f → text ≡ outcome k v (at_end f)
