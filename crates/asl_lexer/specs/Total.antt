-- Each list of bytes has an answer.
use Rattle.std.specs.Prelude.{ℕ, List, Result}
use Rattle.asl_lexer.specs.declared.token.Tok.{Tok}
use Rattle.asl_lexer.specs.declared.token.LexFault.{LexFault}
use Rattle.asl_lexer.specs.Lexing.{Lexes, start}

-- bytes have tokens, or a fault
abbrev pub SomeAnswer : Type 0
SomeAnswer = (bytes : List ℕ) → (r : Result (List Tok) LexFault) × Lexes start bytes r
