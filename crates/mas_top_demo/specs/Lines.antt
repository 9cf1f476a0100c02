-- What the demo writes of a run that has ended.
use Rattle.std.specs.Prelude.{ℕ, Bool, true, false, not, ◌&&◌, if◌then◌else◌, List, [], ◌∷◌, ◌++◌, Option, None, Some, codes, decimal, count_by}
use Rattle.std.specs.Str.{bytes_eq}
use Rattle.asl_term.specs.declared.syntax.LiteralOf.{LiteralOf}
use Rattle.asl_term.specs.declared.syntax.Term.{Term}
use Rattle.asl_term.specs.Texts.{text}
use Rattle.mas_mind.specs.declared.mind.End.TheVariants.{Quiet}
use Rattle.mas_world.specs.Worlds.{facts}
use Rattle.mas_board.specs.declared.seats.Phase.{Phase}
use Rattle.mas_board.specs.declared.seats.Phase.TheVariants.{Left as Gone}
use Rattle.mas_board.specs.declared.seats.AgentPlace.{AgentPlace}
use Rattle.mas_board.specs.Boards.{State}

-- ---- the tally

-- the one term of a list of one
abbrev pub only : List Term → Option Term
only [] = None
only (t ∷ []) = Some t
only (t ∷ u ∷ more) = None

-- whether a fact is `tally(..)`
abbrev pub is_tally : LiteralOf Term → Bool
is_tally l = not l.neg && bytes_eq l.functor (codes "tally")

-- the term of a fact `tally(t)`
abbrev pub counted : LiteralOf Term → Option Term
counted l = if is_tally l then only l.args else None

abbrev pub text_or : Option Term → List ℕ → List ℕ
text_or None other = other
text_or (Some t) other = text t

-- the text of the first such term, or `0` where there is none
abbrev pub tally_text : List (LiteralOf Term) → List ℕ
tally_text [] = codes "0"
tally_text (l ∷ more) = text_or (counted l) (tally_text more)

-- ---- the ends

-- the end `quiet`
abbrev pub is_quiet : Phase → Bool
is_quiet (Gone Quiet) = true
is_quiet other = false

-- how many agents have left with it
abbrev pub quiet_ends : List AgentPlace → ℕ
quiet_ends seats = count_by (λ seat. is_quiet seat.phase) seats

-- ---- the lines

-- a word and what it tells, in a line
unfoldable pub line : List ℕ → List ℕ → List ℕ
line word told = word ++ (told ++ codes "\n")

abbrev pub demo_text : ℕ → State → List ℕ
demo_text k s =
    line (codes "demo ") (decimal k) ++ (line (codes "agents ") (decimal k)
    ++ (line (codes "tally ") (tally_text (facts s.world)) ++ line (codes "quiet ") (decimal (quiet_ends s.seats))))
