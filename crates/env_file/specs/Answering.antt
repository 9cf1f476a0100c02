-- What the reader of world files does, on lists. That it is the answer is shown in `proofs/`.
use Rattle.std.specs.Prelude.{◌≡◌, ℕ, suc, List, [], ◌∷◌, Result, Ok, Err, Option, Some, None, if◌then◌else◌}
use Rattle.asl_lexer.specs.declared.token.Tok.{Tok}
use Rattle.asl_parser_tree.specs.Lexemes.{lexemes}
use Rattle.asl_parser_tree.specs.declared.bounded.Bounded.TheVariants.{Within, Past}
use Rattle.asl_parser_tree.specs.Holding.{limited}
use Rattle.asl_parser_tree.specs.Limits.{most_brackets, too_deep}
use Rattle.mas_world.specs.declared.acts.WorldText.{WorldText}
use Rattle.env_file.specs.declared.fault.WorldFault.{WorldFault}
use Rattle.env_file.specs.declared.fault.WorldFault.TheVariants.{Memory, Clause, Limit}
use Rattle.env_file.specs.Holding.{KeptStatement}
use Rattle.env_file.specs.Speaking.{statement_by}
use Rattle.env_file.specs.Worlds.{made}

-- what is made of what was read
abbrev pub said : List (List ℕ) → WorldText → ℕ → Tok → Option KeptStatement → Result WorldText WorldFault
said artifacts w k t None = Err (Clause k t.line t.column)
said artifacts w k t (Some (Within s)) = made artifacts w k t s
said artifacts w k t (Some (Past u)) = Err (Limit k)

unfoldable pub piece_by : List (List ℕ) → WorldText → ℕ → Tok → List Tok → Result WorldText WorldFault
piece_by artifacts w k first p =
    if too_deep most_brackets 0 (lexemes p) then Err (Limit k) else said artifacts w k first (statement_by limited most_brackets (lexemes p))

-- the same of a piece, which is never empty
abbrev pub piece_at : List (List ℕ) → WorldText → ℕ → List Tok → Result WorldText WorldFault
piece_at artifacts w k [] = Err (Limit k)
piece_at artifacts w k (t ∷ ts) = piece_by artifacts w k t (t ∷ ts)

abbrev pub onward : (WorldText → Result WorldText WorldFault) → Result WorldText WorldFault → Result WorldText WorldFault
onward rest (Ok w) = rest w
onward rest (Err fault) = Err fault

unfoldable pub answer_by : List (List ℕ) → ℕ → WorldText → List (List Tok) → Result WorldText WorldFault
answer_by artifacts k w [] = Ok w
answer_by artifacts k w (p ∷ ps) = onward (λ v. answer_by artifacts (suc k) v ps) (piece_at artifacts w k p)

-- What a function returned is this answer, unless memory ran out.
abbrev pub Told : Result WorldText WorldFault → Result WorldText WorldFault → Type 0
Told (Err Memory) answer = Unit {0}
Told told answer = answer ≡ told

-- What a function that changes a world returned and left is this answer, unless memory ran out.
abbrev pub Makes : Result (Unit {0}) WorldFault → WorldText → Result WorldText WorldFault → Type 0
Makes (Ok u) left answer = answer ≡ Ok left
Makes (Err fault) left answer = Told (Err fault) answer
