-- The lines of a trace of level rules that tell of a failure: `drops`, `failed` and `spent`.
use Rattle.std.specs.Prelude.{ℕ, Bool, true, false, not, ◌&&◌, ◌||◌, ◌==◌, if◌then◌else◌, List, [], ◌∷◌, codes}
use Rattle.std.specs.List.{slice_split, starts_with}
use Rattle.std.specs.Str.{bytes_eq}
use Rattle.look_lines.specs.declared.falls.FallLine.{FallLine}

-- the words of a line, behind the number of its cycle
abbrev pub words : List ℕ → List ℕ
words [] = []
words (b ∷ rest) = if b == 32 then rest else words rest

abbrev pub begins : List ℕ → List ℕ → Bool
begins line word = starts_with ◌==◌ line word

abbrev pub is_told : List ℕ → Bool
is_told w = begins w (codes "drops ") || (begins w (codes "failed ") || begins w (codes "spent "))

-- ---- the row that made a line

-- rows that say what becomes of a stack that fails
abbrev pub is_fate : List ℕ → Bool
is_fate w = bytes_eq w (codes "rule Fail1") || (bytes_eq w (codes "rule Fail2") || bytes_eq w (codes "rule Fail3"))

-- the last row that is none of those
abbrev pub row_after : List ℕ → List ℕ → List ℕ
row_after row w = if begins w (codes "rule ") && not (is_fate w) then w else row

-- ---- whether a failure plan takes it up

-- Fail2 for each means that is popped, and then Fail1, by which the failure is raised
abbrev pub is_raised : List (List ℕ) → Bool
is_raised [] = false
is_raised (l ∷ ls) = if bytes_eq (words l) (codes "rule Fail2") then is_raised ls else bytes_eq (words l) (codes "rule Fail1")

-- that of an action may be; what is dropped or spent is not
abbrev pub is_taken_up : List ℕ → List (List ℕ) → Bool
is_taken_up w behind = begins w (codes "failed ") && is_raised behind

-- ---- all lines

abbrev pub fall_of : List ℕ → List ℕ → List (List ℕ) → FallLine
fall_of row line behind = record { line = line; row = row; taken_up = is_taken_up (words line) behind }

-- each line that tells of a failure, once, in order, with the last row before it
abbrev pub told : List ℕ → List (List ℕ) → List FallLine
told row [] = []
told row (l ∷ ls) =
    let rest = told (row_after row (words l)) ls in
    if is_told (words l) then fall_of row l ls ∷ rest else rest

-- the lines of a text stand between its line feeds
abbrev pub falls : List ℕ → List FallLine
falls text = told [] (slice_split (λ b. b == 10) text)
