-- Texts that stand before others, and the tokens that they give.
use Rattle.std.specs.Prelude.{◌≡◌, ◌≤◌, ℕ, ℤ, Bool, true, false, not, List, [], ◌∷◌, ◌++◌, map, Some, Result, Ok, codes}
use Rattle.std.specs.Fmt.{decimal, signed_decimal}
use Rattle.std.specs.List.{list_all}
use Rattle.asl_term.specs.Texts.{quoted}
use Rattle.asl_lexer.specs.declared.token.Place.{Place}
use Rattle.asl_lexer.specs.declared.token.Tok.{Tok}
use Rattle.asl_lexer.specs.declared.token.LexFault.{LexFault}
use Rattle.asl_lexer.specs.declared.token.Sign as signs
use Rattle.asl_lexer.specs.Spelling.{is_word, is_blank, is_sign, sign_text, sign_of}
use Rattle.asl_lexer.specs.Scan.{starts_word, value}
use Rattle.asl_lexer.specs.Lexing.{start, Lexes, AreTokens}
use Rattle.asl_lexer.specs.Bare.{Bare, bare, mark, atom, var, inner, string, stop, num_tokens}
use Rattle.asl_lexer.specs.Bare.{is_atom, is_var, is_written_number, is_written_byte}

-- the bytes have these tokens, their places aside, and neither others nor a fault
pub record HasTokens (bytes : List ℕ) (xs : List Bare) : Type 0 where
  pub toks : List Tok
  pub lexed : AreTokens bytes toks
  pub same : map bare toks ≡ xs
  pub only : (r : Result (List Tok) LexFault) → Lexes start bytes r → r ≡ Ok toks

-- ---- before other bytes

-- the bytes from a place on have these tokens
pub record Told (p : Place) (bytes : List ℕ) (xs : List Bare) : Type 0 where
  pub toks : List Tok
  pub lexed : Lexes p bytes (Ok toks)
  pub same : map bare toks ≡ xs

-- wherever they stand
pub record Lexed (bytes : List ℕ) (xs : List Bare) : Type 0 where
  pub from : (p : Place) → Told p bytes xs

-- before bytes for which Q holds, the text gives these tokens, whatever those bytes give
pub record Gives (Q : List ℕ → Type 0) (text : List ℕ) (xs : List Bare) : Type 0 where
  pub before : (rest : List ℕ) (ys : List Bare) → Q rest → Lexed rest ys → Lexed (text ++ rest) (xs ++ ys)

-- ---- what may follow

-- anything may follow
abbrev pub Any : List ℕ → Type 0
Any rest = Unit {0}

-- no letter, digit or `_` comes next
abbrev pub stops : List ℕ → Bool
stops [] = true
stops (b ∷ rest) = not (is_word b)

-- what follows goes on with no name and no number
abbrev pub Stop : List ℕ → Type 0
Stop rest = stops rest ≡ true

-- what follows makes no longer sign
abbrev pub NoLonger : signs.Sign → List ℕ → Type 0
NoLonger s [] = Unit {0}
NoLonger s (b ∷ rest) = is_sign (sign_text s ++ b ∷ []) ≡ false

-- no name follows, so that a dot is no dot of an internal action
abbrev pub NoName : List ℕ → Type 0
NoName rest = starts_word rest ≡ false

-- ---- laws: what the text of each token gives

abbrev pub SignsGive : Type 0
SignsGive = (s : signs.Sign) → Gives (NoLonger s) (sign_text s) (mark s ∷ [])

abbrev pub NamesGive : Type 0
NamesGive = (text : List ℕ) → is_atom text ≡ true → Gives Stop text (atom text ∷ [])

abbrev pub VariablesGive : Type 0
VariablesGive = (text : List ℕ) → is_var text ≡ true → Gives Stop text (var text ∷ [])

abbrev pub InnersGive : Type 0
InnersGive = (name : List ℕ) → is_atom name ≡ true → Gives Stop (codes "." ++ name) (inner name ∷ [])

abbrev pub NumbersGive : Type 0
NumbersGive = (n : ℤ) → is_written_number n ≡ true → Gives Stop (signed_decimal n) (num_tokens n)

abbrev pub StringsGive : Type 0
StringsGive = (content : List ℕ) → list_all is_written_byte content ≡ true → Gives Any (quoted content) (string content ∷ [])

abbrev pub StopGives : Type 0
StopGives = Gives NoName (codes ".") (stop ∷ [])

abbrev pub BlanksGive : Type 0
BlanksGive = (b : ℕ) → is_blank b ≡ true → Gives Any (b ∷ []) []

-- a whole text has the tokens that it gives
abbrev pub WholesHave : Type 0
WholesHave = (text : List ℕ) (xs : List Bare) → Gives Stop text xs → HasTokens text xs

-- ---- laws: signs and numbers are read back

abbrev pub SignsSpelled : Type 0
SignsSpelled = (s : signs.Sign) → sign_of (sign_text s) ≡ Some s

abbrev pub SignsRead : Type 0
SignsRead = (text : List ℕ) (s : signs.Sign) → sign_of text ≡ Some s → text ≡ sign_text s

abbrev pub NumbersRead : Type 0
NumbersRead = (n : ℕ) → n ≤ 9223372036854775807 → value (decimal n) ≡ Some n
