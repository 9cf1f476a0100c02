-- What the reader of sources does, on lists. That it is the answer is shown in `proofs/`.
use Rattle.std.specs.Prelude.{◌≡◌, ℕ, suc, Bool, true, false, List, [], ◌∷◌, ◌++◌, Result, Ok, Err, Option, Some, None, if◌then◌else◌}
use Rattle.asl_lexer.specs.declared.token.Tok.{Tok}
use Rattle.asl_parser.specs.declared.sentence.Sentence.{Sentence}
use Rattle.asl_parser_expr.specs.declared.fault.TextFault.{TextFault}
use Rattle.asl_parser_expr.specs.declared.fault.TextFault.TheVariants.{Memory, Lex, Clause, Limit}
use Rattle.asl_parser_tree.specs.Lexemes.{lexemes}
use Rattle.asl_parser_tree.specs.declared.bounded.Bounded.TheVariants.{Within, Past}
use Rattle.asl_parser_tree.specs.Holding.{limited}
use Rattle.asl_parser.specs.Holding.{KeptSentence}
use Rattle.asl_parser.specs.Speaking.{sentence_by}
use Rattle.asl_parser_tree.specs.Limits.{most_brackets, too_deep}

-- what a piece says, or why it is refused, where its number is k
abbrev pub said : ℕ → Tok → Option KeptSentence → Result Sentence TextFault
said k t None = Err (Clause k t.line t.column)
said k t (Some (Within s)) = Ok s
said k t (Some (Past u)) = Err (Limit k)

unfoldable pub piece_by : ℕ → Tok → List Tok → Result Sentence TextFault
piece_by k first p = if too_deep most_brackets 0 (lexemes p) then Err (Limit k) else said k first (sentence_by limited most_brackets (lexemes p))

abbrev pub onto : Result Sentence TextFault → Result (List Sentence) TextFault → Result (List Sentence) TextFault
onto (Err fault) rest = Err fault
onto (Ok s) (Err fault) = Err fault
onto (Ok s) (Ok ss) = Ok (s ∷ ss)

unfoldable pub answer_by : ℕ → List (List Tok) → Result (List Sentence) TextFault
answer_by k [] = Ok []
answer_by k ([] ∷ ps) = answer_by (suc k) ps
answer_by k ((t ∷ ts) ∷ ps) = onto (piece_by k t (t ∷ ts)) (answer_by (suc k) ps)

-- the same of a piece, which is never empty
abbrev pub piece_at : ℕ → List Tok → Result Sentence TextFault
piece_at k [] = Err (Limit k)
piece_at k (t ∷ ts) = piece_by k t (t ∷ ts)

-- what was said before, and what is still said
abbrev pub behind : List Sentence → Result (List Sentence) TextFault → Result (List Sentence) TextFault
behind before (Ok said) = Ok (before ++ said)
behind before (Err fault) = Err fault

-- What a function returned is this answer, unless memory ran out.
abbrev pub Told : {X : Type 0} → Result X TextFault → Result X TextFault → Type 0
Told (Ok x) answer = answer ≡ Ok x
Told (Err Memory) answer = Unit {0}
Told (Err (Lex fault)) answer = answer ≡ Err (Lex fault)
Told (Err (Clause number line column)) answer = answer ≡ Err (Clause number line column)
Told (Err (Limit number)) answer = answer ≡ Err (Limit number)
