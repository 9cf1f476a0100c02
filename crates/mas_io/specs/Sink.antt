-- What was written to a sink, and what a put answers.
use Rattle.std.specs.Prelude.{ℕ, ◌≡◌, ◌≤◌, ◌<◌, List, ◌++◌, length, take, Option, Some, None}
use Rattle.mas_io.specs.Causes.{Rose}
use Rattle.mas_io.specs.declared.sink.Put.{Put}
use Rattle.mas_io.specs.declared.sink.Put.TheVariants.{Took, Failed}

-- what was written, and then this text, where it is told
abbrev pub grown : Option (List ℕ) → List ℕ → Option (List ℕ)
grown None text = None
grown (Some written) text = Some (written ++ text)

-- the first `n` bytes of the piece were written, at least one, and the count stayed
pub record PutTook (old new : Option (List ℕ)) (piece : List ℕ) (before now n : ℕ) : Type 0 where
  pub some : 0 < n
  pub most : n ≤ length piece
  pub written : new ≡ grown old (take n piece)
  pub counted : now ≡ before

-- nothing was written, and the count rose
pub record PutFailed (old new : Option (List ℕ)) (before now : ℕ) : Type 0 where
  pub rose : Rose before now
  pub written : new ≡ old

abbrev pub PutFits : Option (List ℕ) → Option (List ℕ) → List ℕ → ℕ → ℕ → Put → Type 0
PutFits old new piece before now (Took n) = PutTook old new piece before now n
PutFits old new piece before now Failed = PutFailed old new before now
