-- What a shelf holds, and what a fetch answers.
use Rattle.std.specs.Prelude.{ℕ, ◌≡◌, ◌≢◌, ◌≤◌, List, [], ◌∷◌, length, Option, IfSome, nat_lt, if◌then◌else◌}
use Rattle.std.specs.Str.{bytes_eq}
use Rattle.asl_term.specs.declared.syntax.Filed.{Filed}
use Rattle.mas_io.specs.Causes.{Rose}
use Rattle.mas_io.specs.declared.shelf.Fetched.{Fetched}
use Rattle.mas_io.specs.declared.shelf.Fetched.TheVariants.{Bytes, Missing, TooLong, Failed}

-- the bytes, where they are no more than `most`
abbrev pub limited : List ℕ → ℕ → Fetched
limited bytes most = if nat_lt most (length bytes) then TooLong else Bytes bytes

-- the answer where nothing fails: the first file of that name decides
abbrev pub fetched : List Filed → List ℕ → ℕ → Fetched
fetched [] name most = Missing
fetched (file ∷ files) name most = if bytes_eq file.name name then limited file.bytes most else fetched files name most

-- no more than `most` bytes are handed out
abbrev pub IsShort : ℕ → Fetched → Type 0
IsShort most (Bytes bytes) = length bytes ≤ most
IsShort most Missing = Unit {0}
IsShort most TooLong = Unit {0}
IsShort most Failed = Unit {0}

-- Failed comes only where the count rose, and the count rises with it alone. Any other answer is that of the files, where
-- they are told; of what is told nothing of, no more than `most` bytes are handed out all the same.
pub record FetchFits (held : Option (List Filed)) (name : List ℕ) (most before now : ℕ) (answer : Fetched) : Type 0 where
  pub failed : answer ≡ Failed → Rose before now
  pub counted : answer ≢ Failed → now ≡ before
  pub short : IsShort most answer
  pub answers : answer ≢ Failed → IfSome held (λ files. answer ≡ fetched files name most)

-- the answer is the bytes of a file, whose copy takes memory
abbrev pub IsCopy : Fetched → Type 0
IsCopy (Bytes bytes) = Unit {0}
IsCopy Missing = ⊥
IsCopy TooLong = ⊥
IsCopy Failed = ⊥
