-- The change from the texts of a mind's parts to those of a later one, as lines.
use Rattle.std.specs.Prelude.{ℕ, ◌==◌, List, [], ◌∷◌, ◌++◌, map}
use Rattle.std.specs.List.{slice_split}
use Rattle.chart_page.specs.declared.minds.ChangeSign.{ChangeSign}
use Rattle.chart_page.specs.declared.minds.ChangeSign.TheVariants.{Part, Gone, New}
use Rattle.look_lines.specs.declared.change.ChangedLine.{ChangedLine}
use Rattle.look_lines.specs.Differences.{minus}

abbrev pub signed : ChangeSign → List ℕ → ChangedLine
signed s line = record { sign = s; text = line }

-- the lines of a text, the last of which stands behind its last line feed
abbrev pub lines : List ℕ → List (List ℕ)
lines text = slice_split (λ b. b == 10) text

-- the first line of a part is its head
abbrev pub head_of : List (List ℕ) → List ℕ
head_of [] = []
head_of (l ∷ ls) = l

abbrev pub below_head : List (List ℕ) → List (List ℕ)
below_head [] = []
below_head (l ∷ ls) = ls

-- nothing where no line is gone and none is new; else the head, the lines that are gone, and those that are new
abbrev pub told : List ℕ → List (List ℕ) → List (List ℕ) → List ChangedLine
told head [] [] = []
told head gone fresh = signed Part head ∷ (map (signed Gone) gone ++ map (signed New) fresh)

-- of one part, from its text before to its text after
abbrev pub part_change : List ℕ → List ℕ → List ChangedLine
part_change before after =
    let olds = below_head (lines before) in
    let news = below_head (lines after) in
    told (head_of (lines after)) (minus olds news) (minus news olds)

-- of all parts
abbrev pub change : List (List ℕ) → List (List ℕ) → List ChangedLine
change [] afters = []
change (before ∷ befores) [] = []
change (before ∷ befores) (after ∷ afters) = part_change before after ++ change befores afters
