-- The texts of arguments.
use Rattle.std.specs.Prelude.{ℕ, Bool, false, List, codes, Option, None, Some}
use Rattle.std.specs.Str.{bytes_eq}

-- whether a flag is set, by its text, where it has one
abbrev pub is_set : Option (List ℕ) → Bool
is_set None = false
is_set (Some text) = bytes_eq text (codes "true")
