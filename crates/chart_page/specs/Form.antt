-- Which texts have the form of a report: the kinds of its lines, and how these follow one another.
use Rattle.std.specs.Prelude.{ℕ, ◌+◌, Bool, ◌&&◌, ◌||◌, ◌==◌, nat_le, List, [], ◌∷◌, Option, None, Some, codes, if◌then◌else◌}
use Rattle.std.specs.List.{slice_split, starts_with}
use Rattle.std.specs.Str.{bytes_eq}
use Rattle.chart_page.specs.declared.lines.LineKind.{LineKind}
use Rattle.chart_page.specs.declared.lines.LineKind.TheVariants as kind
use Rattle.chart_page.specs.declared.form.ReadingStage.{ReadingStage}
use Rattle.chart_page.specs.declared.form.ReadingStage.TheVariants as stage

-- ---- the kinds of lines

abbrev pub begins : List ℕ → List ℕ → Bool
begins line word = starts_with ◌==◌ line word

abbrev pub kind_by_word : List ℕ → LineKind
kind_by_word line =
    if begins line (codes "agent ") then kind.AgentSection else
    if begins line (codes "end ") then kind.End else
    if begins line (codes "fact ") then kind.Fact else
    if begins line (codes "for ") then kind.Letter else
    if begins line (codes "schedule ") then kind.Count else
    if begins line (codes "cycles ") then kind.Options else kind.Other

abbrev pub is_head : List ℕ → Bool
is_head line = bytes_eq line (codes "jasonrun 1") || bytes_eq line (codes "jasonrun 2")

abbrev pub is_digit : ℕ → Bool
is_digit b = nat_le 48 b && nat_le b 57

abbrev pub kind_of : List ℕ → LineKind
kind_of [] = kind.Empty
kind_of (b ∷ rest) =
    if is_digit b then kind.Numbered else
    if bytes_eq (b ∷ rest) (codes "world") then kind.World else
    if bytes_eq (b ∷ rest) (codes "mail") then kind.Mail else
    if is_head (b ∷ rest) then kind.Head else kind_by_word (b ∷ rest)

-- ---- the order of lines

-- The head, the options, and for each agent its name, numbered lines and its end; the world and its facts; the mail and its letters; the
-- number of turns, and the turns.
abbrev pub follow : ReadingStage → LineKind → Option ReadingStage
follow stage.Start kind.Head = Some stage.Headed
follow stage.Headed kind.Options = Some stage.Between
follow stage.Between kind.AgentSection = Some stage.Inside
follow stage.Inside kind.Numbered = Some stage.Inside
follow stage.Inside kind.End = Some stage.Between
follow stage.Between kind.World = Some stage.World
follow stage.World kind.Fact = Some stage.World
follow stage.World kind.Mail = Some stage.Mail
follow stage.Mail kind.Letter = Some stage.Mail
follow stage.Mail kind.Count = Some stage.Counted
follow stage.Counted kind.Numbered = Some stage.Turned
follow stage.Turned kind.Empty = Some stage.Done
follow other line = None

abbrev pub ended : ReadingStage → ℕ → Option ℕ
ended stage.Done number = None
ended other number = Some number

-- the number of the first line that may not follow, where the first of these has this number; of the one that is missing; or None
abbrev pub bad_from : ℕ → ReadingStage → List (List ℕ) → Option ℕ
bad_from number s [] = ended s number
bad_from number s (line ∷ lines) = elim (follow s (kind_of line)) [ None ↦ Some number | Some t ↦ bad_from (number + 1) t lines ]

abbrev pub first_bad : List (List ℕ) → Option ℕ
first_bad lines = bad_from 1 stage.Start lines

-- of a text, whose lines stand between its line feeds
abbrev pub first_bad_line : List ℕ → Option ℕ
first_bad_line text = first_bad (slice_split (λ b. b == 10) text)
