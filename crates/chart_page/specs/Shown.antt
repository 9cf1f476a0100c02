-- Which lines of a report are shown in a picture or a page, and what of each.
use Rattle.std.specs.Prelude.{ℕ, ◌+◌, Bool, true, false, ◌||◌, ◌==◌, List, [], ◌∷◌, ◌++◌, ◌≡◌, slice_index_or, None, if◌then◌else◌}
use Rattle.std.specs.List.{list_any}
use Rattle.std.specs.Str.{bytes_eq}
use Rattle.chart_page.specs.declared.choice.Choice.{Choice}
use Rattle.chart_page.specs.declared.lines.LineKind.{LineKind}
use Rattle.chart_page.specs.declared.lines.LineKind.TheVariants as kind
use Rattle.chart_page.specs.declared.shown.Part.{Part}
use Rattle.chart_page.specs.declared.shown.Part.TheVariants as part
use Rattle.chart_page.specs.Form.{kind_of}

-- what stands behind the first such byte
abbrev pub behind : ℕ → List ℕ → List ℕ
behind sign [] = []
behind sign (b ∷ rest) = if b == sign then rest else behind sign rest

-- ---- which lines are

abbrev pub is_empty : {X : Type 0} → List X → Bool
is_empty [] = true
is_empty (x ∷ xs) = false

-- each agent, where no names are given
abbrev pub is_chosen : Choice → List ℕ → Bool
is_chosen c name = list_any (λ n. bytes_eq n.now name) c.names.now || is_empty c.names.now

abbrev pub name_in : List ℕ → List ℕ
name_in line = behind 32 line

-- in which part a line stands, behind a line of that part
abbrev pub part_of : Choice → Part → LineKind → List ℕ → Part
part_of c p kind.AgentSection line = if is_chosen c (name_in line) then part.Drawn else part.Other
part_of c p kind.World line = part.Around
part_of c p _ line = p

-- What is shown of a line: of an agent its name, of a trace's line what stands behind the cycle, of an end what stands behind the name, of a
-- fact the fact, and of another one the line.
abbrev pub said : Part → LineKind → List ℕ → List ℕ
said part.Drawn kind.AgentSection line = name_in line
said part.Drawn kind.Numbered line = behind 32 line
said part.Drawn kind.End line = behind 32 (behind 32 line)
said part.Around kind.Fact line = behind 32 line
said _ _ line = line

-- Left out are the section of an agent that is not chosen, and the lines of a trace that are not of the turns that are drawn; a text ends with
-- an empty line.
abbrev pub is_shown : Part → LineKind → Bool → Bool
is_shown part.Other k is_within = false
is_shown part.Around kind.Empty is_within = false
is_shown part.Drawn kind.Numbered is_within = is_within
is_shown _ _ is_within = true

-- What is shown of lines, the first of which has this number and stands behind a line of that part. The flags say of each line of the text
-- whether it is of the turns that are drawn.
abbrev pub shown : Choice → List Bool → ℕ → Part → List (List ℕ) → List (List ℕ)
shown c flags n p [] = []
shown c flags n p (line ∷ lines) =
    let k = kind_of line in
    let q = part_of c p k line in
    (if is_shown q k (slice_index_or flags n true) then said q k line ∷ [] else []) ++ shown c flags (n + 1) q lines

-- each line is of the turns that are drawn, where all turns are
abbrev pub AreFlags : Choice → List Bool → Type 0
AreFlags c flags = c.turns ≡ None → flags ≡ []

abbrev pub AreShown : Choice → List (List ℕ) → List (List ℕ) → Type 0
AreShown c lines texts = (flags : List Bool) × AreFlags c flags × (texts ≡ shown c flags 0 part.Around lines)
