-- Bytes have an answer.
use Rattle.std.proofs.Common.{◌≡◌, ℕ, List, Result, Ok, Err, refl, subst}
use Rattle.asl_lexer.specs.declared.token.Tok.{Tok}
use Rattle.asl_lexer.specs.declared.token.LexFault.{LexFault}
use Rattle.asl_lexer.specs.Words.{pieces, is_end}
use Rattle.asl_lexer.specs.Lexing.{AreTokens, Lexes, start}
use Rattle.asl_lexer.proofs.Total as lexer
use Rattle.asl_parser_expr.specs.declared.fault.TextFault.{TextFault}
use Rattle.asl_parser_expr.specs.declared.fault.TextFault.TheVariants.{Memory, Lex, Clause, Limit}
use Rattle.asl_parser.specs.declared.sentence.Sentence.{Sentence}
use Rattle.asl_parser.specs.Agents.{Answers, is_later, IsAnswer}
use Rattle.asl_parser.specs.Answering.{answer_by}
use Rattle.asl_parser.specs.Laws.{SomeAnswer}
use Rattle.asl_parser.proofs.Answered.{answers, never_lex}

-- no clause is refused for want of memory
never_memory : {k : ℕ} {ps : List (List Tok)} → Answers k ps (Err Memory) → ⊥
never_memory (is_later h r e a) = never_memory a

abbrev Answer : List ℕ → Type 0
Answer bytes = (r : Result (List Sentence) TextFault) × IsAnswer bytes r

of_tokens : (bytes : List ℕ) (ts : List Tok) → AreTokens bytes ts → (r : Result (List Sentence) TextFault) → Answers 1 (pieces is_end ts) r → Answer bytes
of_tokens bytes ts l (Ok said) a = (Ok said, record { tokens = ts; lexed = l; read = a })
of_tokens bytes ts l (Err Memory) a = absurd (never_memory a)
of_tokens bytes ts l (Err (Lex fault)) a = absurd (never_lex a)
of_tokens bytes ts l (Err (Clause number line column)) a = (Err (Clause number line column), record { tokens = ts; lexed = l; refused = a })
of_tokens bytes ts l (Err (Limit number)) a = (Err (Limit number), record { tokens = ts; lexed = l; refused = a })

answered : (bytes : List ℕ) (lexed : Result (List Tok) LexFault) → Lexes start bytes lexed → Answer bytes
answered bytes (Ok ts) l = of_tokens bytes ts l (answer_by 1 (pieces is_end ts)) (answers ts)
answered bytes (Err fault) l = (Err (Lex fault), l)

pub some_answer : SomeAnswer
some_answer bytes = let l = lexer.some_answer bytes in answered bytes l.0 l.1
