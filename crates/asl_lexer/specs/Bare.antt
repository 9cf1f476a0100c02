-- Tokens without their places, and what their texts are made of.
use Rattle.std.specs.Prelude.{◌≡◌, All, ℕ, suc, ℤ, pos, negsuc, Bool, true, false, not, ◌&&◌, ◌||◌, ◌==◌, nat_le, List, [], ◌∷◌, codes}
use Rattle.std.specs.Fmt.{decimal}
use Rattle.std.specs.List.{list_all}
use Rattle.std.specs.Option.{is_some}
use Rattle.std.specs.Str.{bytes_eq}
use Rattle.asl_lexer.specs.declared.token.TokKind.{TokKind}
use Rattle.asl_lexer.specs.declared.token.TokKind.TheVariants as kind
use Rattle.asl_lexer.specs.declared.token.Tok.{Tok}
use Rattle.asl_lexer.specs.declared.token.Sign as signs
use Rattle.asl_lexer.specs.declared.token.Sign.TheVariants as sign
use Rattle.asl_lexer.specs.declared.token.Word.{Word}
use Rattle.asl_lexer.specs.Spelling.{is_lower, is_upper, is_digit, is_word, is_sign, sign_text}
use Rattle.asl_lexer.specs.Scan.{value}
use Rattle.asl_lexer.specs.Lexing.{AreTokens}
use Rattle.asl_lexer.specs.Words.{word_of}

-- a token without its place
pub record Bare : Type 0 where
  pub kind : TokKind
  pub text : List ℕ

abbrev pub bare : Tok → Bare
bare t = record { kind = t.kind; text = t.text }

-- what it is to a grammar
abbrev pub bare_word : Bare → Word
bare_word x = word_of x.kind x.text

abbrev pub mark : signs.Sign → Bare
mark s = record { kind = kind.Sign; text = sign_text s }

abbrev pub atom : List ℕ → Bare
atom text = record { kind = kind.Atom; text = text }

abbrev pub var : List ℕ → Bare
var text = record { kind = kind.Var; text = text }

-- the name has no dot
abbrev pub inner : List ℕ → Bare
inner name = record { kind = kind.Inner; text = name }

abbrev pub number : ℕ → Bare
number n = record { kind = kind.Number; text = decimal n }

-- the content of a string, without quotes and escapes
abbrev pub string : List ℕ → Bare
string content = record { kind = kind.Str; text = content }

abbrev pub stop : Bare
stop = record { kind = kind.End; text = codes "." }

-- a negative number is a `-` and a number
abbrev pub num_tokens : ℤ → List Bare
num_tokens (pos n) = number n ∷ []
num_tokens (negsuc n) = mark sign.Minus ∷ number (suc n) ∷ []

-- ---- what texts are made of

-- a lower-case letter, then letters, digits and `_`
abbrev pub is_atom : List ℕ → Bool
is_atom [] = false
is_atom (b ∷ text) = is_lower b && list_all is_word text

-- an upper-case letter or `_`, then letters, digits and `_`
abbrev pub is_var : List ℕ → Bool
is_var [] = false
is_var (b ∷ text) = is_upper b && list_all is_word text

-- the least 64-bit number is no number of a source: its digits are above 9223372036854775807
abbrev pub is_written_number : ℤ → Bool
is_written_number (pos n) = nat_le n 9223372036854775807
is_written_number (negsuc n) = nat_le n 9223372036854775806

-- a byte of a string's content: one that stands for itself, or one with an escape
abbrev pub is_written_byte : ℕ → Bool
is_written_byte b = (b == 10 || b == 9) || (nat_le 32 b && not (b == 127))

-- what the text of a token is made of, by its kind; of a string it is the content, of an Inner the name
abbrev pub is_spelled_token : TokKind → List ℕ → Bool
is_spelled_token kind.Atom text = is_atom text
is_spelled_token kind.Var text = is_var text
is_spelled_token kind.Inner text = is_atom text
is_spelled_token kind.Number text = list_all is_digit text && is_some (value text)
is_spelled_token kind.Str text = list_all is_written_byte text
is_spelled_token kind.Sign text = is_sign text
is_spelled_token kind.End text = bytes_eq text (codes ".")

-- a token has a text of its kind
abbrev pub IsSpelledToken : Tok → Type 0
IsSpelledToken t = is_spelled_token t.kind t.text ≡ true

-- the tokens of any bytes have
abbrev pub TokensSpelled : Type 0
TokensSpelled = (bytes : List ℕ) (ts : List Tok) → AreTokens bytes ts → All IsSpelledToken ts
