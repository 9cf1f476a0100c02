-- Tables of values, by their numbers from 0, and of answers that are remembered.
use Rattle.std.specs.Prelude.{ℕ, ◌≡◌, ◌⊎◌, List, [], ◌∷◌, ◌++◌, slice_get, Some}

-- the values are those of before, or this one was put last
abbrev pub IsGrown : {X : Type 0} → List X → List X → X → Type 0
IsGrown old new x = (new ≡ old) ⊎ (new ≡ old ++ x ∷ [])

-- the values keep their numbers, and this one has this number; no other value is new
pub record HasEntered {X : Type 0} (old new : List X) (x : X) (n : ℕ) : Type 0 where
  pub stay : (i : ℕ) (y : X) → slice_get old i ≡ Some y → slice_get new i ≡ Some y
  pub at : slice_get new n ≡ Some x
  pub grown : IsGrown old new x

-- questions, and for each of the first ones its answer
pub record Answers (K R : Type 0) : Type 0 where
  pub keys : List K
  pub values : List R

-- this answer to this question is remembered
pub record Recalls {K R : Type 0} (answers : Answers K R) (key : K) (value : R) : Type 0 where
  pub place : ℕ
  pub key_at : slice_get answers.keys place ≡ Some key
  pub value_at : slice_get answers.values place ≡ Some value

-- what is remembered was so before, or is this answer to this question
abbrev pub HasNoted : {K R : Type 0} → Answers K R → Answers K R → K → R → Type 0
HasNoted {K} {R} old new key value = (k : K) (r : R) → Recalls new k r → Recalls old k r ⊎ ((k ≡ key) × (r ≡ value))
