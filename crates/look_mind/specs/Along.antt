-- What changes in minds along a run, of each of which the texts of its parts are given.
use Rattle.std.specs.Prelude.{ℕ, ◌+◌, ◌<◌, ◌≡◌, List, [], ◌∷◌, ◌++◌, length, take, slice_index, slice_index_or, Option, Some, None}
use Rattle.mas_mind.specs.Minds.{Kind}
use Rattle.mas_core.specs.Platform.{Platform, run, turn}
use Rattle.mas_core.specs.Fits.{Played}
use Rattle.look_run.specs.Before.{texts_at}
use Rattle.look_lines.specs.Changes.{change}
use Rattle.look_lines.specs.declared.change.ChangedLine.{ChangedLine}

-- these lines are the change from the mind of the agent whose turn comes next, where the platform was stepped along the first t of the turns,
-- to its mind a turn later
pub record IsChangeAt {V : Type 0} (k : Kind V) (parts : V → List (List ℕ)) (p : Platform V) (turns : List ℕ) (t : ℕ)
    (c : List ChangedLine) : Type 0 where
  pub before : Platform V
  pub after : Platform V
  pub ran_before : run k p (take t turns) ≡ Some before
  pub ran_after : run k p (take (t + 1) turns) ≡ Some after
  pub is : c ≡ change (texts_at parts before (slice_index turns t)) (texts_at parts after (slice_index turns t))

-- of each turn its change
pub record AreChanges {V : Type 0} (k : Kind V) (parts : V → List (List ℕ)) (p : Platform V) (turns : List ℕ)
    (cs : List (List ChangedLine)) : Type 0 where
  pub number : length cs ≡ length turns
  pub each : (t : ℕ) → t < length turns → IsChangeAt k parts p turns t (slice_index_or cs t [])

-- what a call for the turn of the agent of this number leaves, and its change, where there is a turn
abbrev pub HasStepped : {V : Type 0} → Kind V → (V → List (List ℕ)) → Played V → ℕ → Played V → Option (List ChangedLine) → Type 0
HasStepped k parts old a new None = turn k old.platform a ≡ None
HasStepped k parts old a new (Some c) =
    (turn k old.platform a ≡ Some new.platform) × (new.schedule ≡ old.schedule ++ a ∷ [])
    × (c ≡ change (texts_at parts old.platform a) (texts_at parts new.platform a))
