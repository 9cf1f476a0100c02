-- A list of distinct names, which are counted from 1.
use Rattle.std.specs.Prelude.{ℕ, ◌+◌, ◌-◌, ◌==◌, if◌then◌else◌, List, [], ◌∷◌, ◌++◌, Option, Some, None, slice_get}
use Rattle.std.specs.List.{list_any}
use Rattle.std.specs.Option.{option_map}
use Rattle.std.specs.Str.{bytes_eq}

-- the place of a name, None where it is not there
abbrev pub place_of : List (List ℕ) → List ℕ → Option ℕ
place_of [] name = None
place_of (first ∷ rest) name = if bytes_eq name first then Some 1 else option_map (λ k. k + 1) (place_of rest name)

-- the names and this one: a new name goes last
abbrev pub with_name : List (List ℕ) → List ℕ → List (List ℕ)
with_name names name = if list_any (bytes_eq name) names then names else names ++ name ∷ []

-- the name at a place, None where no name has it
abbrev pub name_at : List (List ℕ) → ℕ → Option (List ℕ)
name_at names k = if k == 0 then None else slice_get names (k - 1)
