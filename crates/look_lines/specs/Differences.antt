-- The lines of one list that another has not, or has less often.
use Rattle.std.specs.Prelude.{ℕ, suc, ◌-◌, ◌≡◌, if◌then◌else◌, List, [], ◌∷◌}
use Rattle.std.specs.Str.{bytes_eq}

-- without the first line that is this one
abbrev pub without : List ℕ → List (List ℕ) → List (List ℕ)
without line [] = []
without line (l ∷ ls) = if bytes_eq l line then ls else l ∷ without line ls

-- each of the others takes one away
abbrev pub minus : List (List ℕ) → List (List ℕ) → List (List ℕ)
minus lines [] = lines
minus lines (other ∷ others) = minus (without other lines) others

-- ---- what that means

-- how often a line stands there
abbrev pub times : List ℕ → List (List ℕ) → ℕ
times line [] = 0
times line (l ∷ ls) = if bytes_eq l line then suc (times line ls) else times line ls

-- each line is left as often as it stands there more often than among the others
abbrev pub LeavesTheRest : Type 0
LeavesTheRest = (lines others : List (List ℕ)) (line : List ℕ) → times line (minus lines others) ≡ times line lines - times line others

-- some of the lines, in their order
pub data IsPart : List (List ℕ) → List (List ℕ) → Type 0 where
  nothing : IsPart [] []
  kept : (l : List ℕ) (part all : List (List ℕ)) → IsPart part all → IsPart (l ∷ part) (l ∷ all)
  past : (l : List ℕ) (part all : List (List ℕ)) → IsPart part all → IsPart part (l ∷ all)

abbrev pub KeepsOrder : Type 0
KeepsOrder = (lines others : List (List ℕ)) → IsPart (minus lines others) lines
