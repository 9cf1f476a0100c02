-- Where a name is kept.
use Rattle.std.specs.Prelude.{ℕ, ◌≤◌, List, take}
use Rattle.asl_term.specs.declared.name.Kept.{Kept}
use Rattle.asl_term.specs.declared.name.Kept.TheVariants.{Short, Long}

-- its bytes
abbrev pub bytes_of : Kept → List ℕ
bytes_of (Short n bytes) = take n bytes
bytes_of (Long t) = t

-- no more bytes than there is room for
abbrev pub IsKept : Kept → Type 0
IsKept (Short n bytes) = n ≤ 22
IsKept (Long t) = Unit {0}
