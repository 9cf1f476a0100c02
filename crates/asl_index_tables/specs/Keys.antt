-- Places that are listed by a number.
use Rattle.std.specs.Prelude.{◌≡◌, ℕ, nat_eq, ◌==◌, if◌then◌else◌, List, [], ◌∷◌, ◌++◌}
use Rattle.std.specs.Option.{unwrap_or}
use Rattle.std.specs.HashMap.{get}
use Rattle.asl_index_tables.specs.declared.keys.Keys.{Keys}
use Rattle.asl_index_tables.specs.Frames.{without}

-- the places that are listed under a number
abbrev pub listed : Keys → ℕ → List ℕ
listed k n = unwrap_or (get nat_eq k.places n) []

-- everything is listed as before
abbrev pub IsSame : Keys → Keys → Type 0
IsSame old new = (n : ℕ) → listed new n ≡ listed old n

-- a place was put last under a number, and all else is as before
abbrev pub IsPut : ℕ → ℕ → Keys → Keys → Type 0
IsPut key place old new = (n : ℕ) → listed new n ≡ if n == key then listed old n ++ place ∷ [] else listed old n

-- a place was taken out there, and all else is as before
abbrev pub IsTaken : ℕ → ℕ → Keys → Keys → Type 0
IsTaken key place old new = (n : ℕ) → listed new n ≡ if n == key then without place (listed old n) else listed old n
