-- The lines of a part: one with its name and how many it has, and then those of each.
use Rattle.std.specs.Prelude.{ℕ, zero, suc, ◌-◌, ◌==◌, min, Bool, true, if◌then◌else◌, List, [], ◌∷◌, ◌++◌, length, unwrap_or}
use Rattle.std.specs.Prelude.{codes, decimal}
use Rattle.std.specs.List.{flat_map}
use Rattle.asl_term.specs.declared.syntax.LiteralOf.{LiteralOf}
use Rattle.asl_term.specs.declared.syntax.Term.{Term}
use Rattle.asl_term.specs.Exprs.{literal_text}
use Rattle.asl_term.specs.Names.{name_at}

-- `NAME N`
unfoldable pub head : List ℕ → ℕ → List ℕ
head name n = name ++ (codes " " ++ (decimal n ++ codes "\n"))

-- a line with two blanks in front
unfoldable pub line : List ℕ → List ℕ
line text = codes "  " ++ (text ++ codes "\n")

-- the head of a list, and then each of it
abbrev pub part : {A : Type 0} → List ℕ → (A → List ℕ) → List A → List ℕ
part name lines_of xs = head name (length xs) ++ flat_map lines_of xs

-- the name of the agent of a number, and nothing where there is none
abbrev pub name_of : List (List ℕ) → ℕ → List ℕ
name_of names a = unwrap_or (name_at names a) []

-- beliefs, and what an agent sees
abbrev pub literal_line : LiteralOf Term → List ℕ
literal_line l = line (literal_text l)

-- ---- the last lines of a text

abbrev pub feeds : List ℕ → ℕ
feeds [] = 0
feeds (c ∷ cs) = if c == 10 then suc (feeds cs) else feeds cs

-- what stands behind so many line feeds
abbrev pub behind : ℕ → List ℕ → List ℕ
behind zero text = text
behind (suc n) [] = []
behind (suc n) (c ∷ cs) = if c == 10 then behind n cs else behind (suc n) cs

-- with two blanks in front of each line, where a line begins or goes on
abbrev pub indented : Bool → List ℕ → List ℕ
indented begins [] = []
indented begins (c ∷ cs) = (if begins then codes "  " else []) ++ (c ∷ indented (c == 10) cs)

abbrev pub most_lines : ℕ
most_lines = 5

-- how many there are, and they
abbrev pub last_text : List ℕ → List ℕ
last_text text = head (codes "lines") (min (feeds text) most_lines) ++ indented true (behind (feeds text - most_lines) text)
