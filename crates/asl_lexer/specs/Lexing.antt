-- What the tokens of bytes are.
use Rattle.std.specs.Prelude.{◌≡◌, ℕ, ◌+◌, Bool, true, false, ◌==◌, List, [], ◌∷◌, take, drop, Result, Ok, Err, if◌then◌else◌}
use Rattle.std.specs.Option.{is_some}
use Rattle.asl_lexer.specs.declared.token.TokKind.{TokKind}
use Rattle.asl_lexer.specs.declared.token.TokKind.TheVariants.{Atom, Var, Inner, Number, Str, Sign, End}
use Rattle.asl_lexer.specs.declared.token.Place.{Place}
use Rattle.asl_lexer.specs.declared.token.Tok.{Tok}
use Rattle.asl_lexer.specs.declared.token.LexFault.{LexFault}
use Rattle.asl_lexer.specs.declared.token.LexFault.TheVariants.{Memory, BadByte, OpenString, OpenComment, NumberRange}
use Rattle.asl_lexer.specs.Spelling.{IsLongest, NoToken}
use Rattle.asl_lexer.specs.Blanks.{BlankAt, IsOpenComment, begins_blank}
use Rattle.asl_lexer.specs.Quotes.{IsClosed, IsBadBehind}
use Rattle.asl_lexer.specs.Scan.{content, value}

-- ---- places

abbrev pub start : Place
start = record { at = 0; line = 1; column = 1 }

-- a line feed ends its line
abbrev pub after_byte : Place → ℕ → Place
after_byte p b = if b == 10 then record { at = p.at + 1; line = p.line + 1; column = 1 } else record { at = p.at + 1; line = p.line; column = p.column + 1 }

-- the place behind these bytes
abbrev pub after : Place → List ℕ → Place
after p [] = p
after p (b ∷ bytes) = after (after_byte p b) bytes

-- ---- one token

-- a number is not above 9223372036854775807
abbrev pub is_allowed : TokKind → List ℕ → Bool
is_allowed Number text = is_some (value text)
is_allowed Atom text = true
is_allowed Var text = true
is_allowed Inner text = true
is_allowed Str text = true
is_allowed Sign text = true
is_allowed End text = true

-- of a string its content, of an Inner its name without the dot, of the others their spelling
abbrev pub text_of : TokKind → List ℕ → List ℕ
text_of Str spelled = content false (drop 1 spelled)
text_of Inner spelled = drop 1 spelled
text_of Atom spelled = spelled
text_of Var spelled = spelled
text_of Number spelled = spelled
text_of Sign spelled = spelled
text_of End spelled = spelled

abbrev pub tok_of : TokKind → List ℕ → Place → Tok
tok_of kind spelled p = record { kind = kind; text = text_of kind spelled; at = p.at; line = p.line; column = p.column }

-- the longest token stands here, and no blank and no comment does
pub record TokenAt (bytes : List ℕ) (kind : TokKind) (n : ℕ) : Type 0 where
  pub no_blank : begins_blank bytes ≡ false
  pub longest : IsLongest bytes kind n

-- ---- faults

-- The bytes from the place `at` on begin with this fault.
pub data FaultAt (at : ℕ) (bytes : List ℕ) : LexFault → Type 0 where
  open_comment : IsOpenComment bytes → FaultAt at bytes (OpenComment at)
  big_number : (kind : TokKind) (n : ℕ) → TokenAt bytes kind n → is_allowed kind (take n bytes) ≡ false → FaultAt at bytes (NumberRange at)
  -- a string that meets a line feed or the end, at its quote
  open_string : (text : List ℕ) → bytes ≡ 34 ∷ text → (IsClosed text → ⊥) → FaultAt at bytes (OpenString at)
  -- a closed string, at its first bad byte; of a bad escape that is the backslash
  bad_string : (text : List ℕ) (k : ℕ) → bytes ≡ 34 ∷ text → IsBadBehind text k → FaultAt at bytes (BadByte (at + 1 + k))
  -- a byte that begins no string, no other token, no blank and no comment
  bad_byte : (b : ℕ) (rest : List ℕ) → bytes ≡ b ∷ rest → (b ≡ 34 → ⊥) → begins_blank bytes ≡ false → NoToken bytes → FaultAt at bytes (BadByte at)

-- ---- all tokens

-- a token before what the rest gives
abbrev pub onto : Tok → Result (List Tok) LexFault → Result (List Tok) LexFault
onto t (Ok ts) = Ok (t ∷ ts)
onto t (Err fault) = Err fault

-- rule: what the bytes from a place on give: their tokens, each the longest at its place, or the first fault.
pub data Lexes : Place → List ℕ → Result (List Tok) LexFault → Type 0 where
  at_end : {p : Place} → Lexes p [] (Ok [])
  behind_blank : {p : Place} {bytes : List ℕ} {r : Result (List Tok) LexFault} (n : ℕ) → BlankAt bytes n
      → Lexes (after p (take n bytes)) (drop n bytes) r → Lexes p bytes r
  behind_token : {p : Place} {bytes : List ℕ} {r s : Result (List Tok) LexFault} (kind : TokKind) (n : ℕ) → TokenAt bytes kind n
      → is_allowed kind (take n bytes) ≡ true → Lexes (after p (take n bytes)) (drop n bytes) r → s ≡ onto (tok_of kind (take n bytes) p) r
      → Lexes p bytes s
  stops : {p : Place} {bytes : List ℕ} {fault : LexFault} → FaultAt p.at bytes fault → Lexes p bytes (Err fault)

-- the tokens of bytes
abbrev pub AreTokens : List ℕ → List Tok → Type 0
AreTokens bytes ts = Lexes start bytes (Ok ts)

-- the first fault of bytes
abbrev pub IsFirstFault : List ℕ → LexFault → Type 0
IsFirstFault bytes fault = Lexes start bytes (Err fault)

-- why bytes gave no tokens; memory may lack anywhere
abbrev pub IsFault : List ℕ → LexFault → Type 0
IsFault bytes Memory = Unit {0}
IsFault bytes (BadByte at) = IsFirstFault bytes (BadByte at)
IsFault bytes (OpenString at) = IsFirstFault bytes (OpenString at)
IsFault bytes (OpenComment at) = IsFirstFault bytes (OpenComment at)
IsFault bytes (NumberRange at) = IsFirstFault bytes (NumberRange at)

-- ---- laws

-- bytes have one list of tokens or one fault, and not both
abbrev pub OneAnswer : Type 0
OneAnswer = (bytes : List ℕ) (r s : Result (List Tok) LexFault) → Lexes start bytes r → Lexes start bytes s → r ≡ s
