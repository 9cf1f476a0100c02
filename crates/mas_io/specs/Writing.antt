-- What was written of a text.
use Rattle.std.specs.Prelude.{ℕ, ◌≡◌, List, take, Option}
use Rattle.mas_io.specs.Causes.{Rose}
use Rattle.mas_io.specs.Sink.{grown}
use Rattle.mas_io.specs.Told.{Told}

-- a prefix of the text was written
abbrev pub IsCut : Option (List ℕ) → Option (List ℕ) → List ℕ → Type 0
IsCut old new text = (n : ℕ) × (new ≡ grown old (take n text))

-- a text of this kind was written whole
pub record Wrote (Is : List ℕ → Type 0) (before after : Told) : Type 0 where
  pub text : List ℕ
  pub is : Is text
  pub written : after.written ≡ grown before.written text

-- the sink failed, and a prefix of a text of this kind was written
pub record WroteSome (Is : List ℕ → Type 0) (before after : Told) : Type 0 where
  pub rose : Rose before.sink_faults after.sink_faults
  pub text : List ℕ
  pub is : Is text
  pub cut : IsCut before.written after.written text
