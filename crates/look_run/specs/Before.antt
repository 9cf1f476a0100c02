-- Texts of minds before some of the turns of a run.
use Rattle.std.specs.Prelude.{ℕ, ◌-◌, ◌<◌, ◌≡◌, Bool, false, if◌then◌else◌, List, [], ◌∷◌}
use Rattle.std.specs.Prelude.{◌++◌, length, take, slice_get, slice_index, slice_index_or, unwrap_or, Option, Some, None}
use Rattle.mas_mind.specs.Minds.{Kind}
use Rattle.mas_core.specs.Platform.{Platform, is_agent, run, turn}
use Rattle.mas_core.specs.Fits.{Played}

abbrev pub of_mind : {V : Type 0} → (V → List (List ℕ)) → Option V → List (List ℕ)
of_mind texts None = []
of_mind texts (Some m) = texts m

-- the texts of the mind of the agent of this number; none where no agent has it
abbrev pub texts_at : {V : Type 0} → (V → List (List ℕ)) → Platform V → ℕ → List (List ℕ)
texts_at texts p a = if is_agent (length p.board.seats) a then of_mind texts (slice_get p.minds (a - 1)) else []

abbrev pub is_marked : List Bool → ℕ → Bool
is_marked marks t = unwrap_or (slice_get marks t) false

-- where it is asked for
abbrev pub texts_if : {V : Type 0} → (V → List (List ℕ)) → Bool → Platform V → ℕ → List (List ℕ)
texts_if texts marked p a = if marked then texts_at texts p a else []

-- these are the texts of the agent whose turn comes next, where that turn is marked and the platform was stepped along the turns before; none where it is not
pub record IsBefore {V : Type 0} (k : Kind V) (texts : V → List (List ℕ)) (p : Platform V) (turns : List ℕ) (marks : List Bool) (t : ℕ)
    (c : List (List ℕ)) : Type 0 where
  pub before : Platform V
  pub ran : run k p (take t turns) ≡ Some before
  pub is : c ≡ texts_if texts (is_marked marks t) before (slice_index turns t)

-- of each turn
pub record AreBefore {V : Type 0} (k : Kind V) (texts : V → List (List ℕ)) (p : Platform V) (turns : List ℕ) (marks : List Bool)
    (cs : List (List (List ℕ))) : Type 0 where
  pub number : length cs ≡ length turns
  pub each : (t : ℕ) → t < length turns → IsBefore k texts p turns marks t (slice_index_or cs t [])

-- what a call for the turn of the agent of this number leaves, and its texts before, where there is a turn
abbrev pub HasStepped : {V : Type 0} → Kind V → (V → List (List ℕ)) → Played V → ℕ → Bool → Played V → Option (List (List ℕ)) → Type 0
HasStepped k texts old a marked new None = turn k old.platform a ≡ None
HasStepped k texts old a marked new (Some c) =
    (turn k old.platform a ≡ Some new.platform) × (new.schedule ≡ old.schedule ++ a ∷ []) × (c ≡ texts_if texts marked old.platform a)
