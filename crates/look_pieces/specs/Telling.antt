-- What is told of a file: where its reader refuses it.
use Rattle.std.specs.Prelude.{◌≡◌, ℕ, suc, Bool, true, false, ◌<◌, ◌≤◌, List, [], ◌∷◌, ◌++◌, length, take, slice_get, Option, Some, None, is_ok, if◌then◌else◌}
use Rattle.asl_lexer.specs.declared.token.Tok.{Tok}
use Rattle.asl_lexer.specs.declared.token.LexFault.{LexFault}
use Rattle.asl_lexer.specs.declared.token.LexFault.TheVariants.{Memory, BadByte, OpenString, OpenComment, NumberRange}
use Rattle.asl_lexer.specs.Lexing.{AreTokens, IsFirstFault, start, after}
use Rattle.asl_lexer.specs.Words.{pieces, is_end}
use Rattle.asl_parser.specs.Answering.{piece_at}
use Rattle.look_pieces.specs.declared.findings.Finding.{Finding}

-- P of a value, where there is one
abbrev pub IfThere : {A : Type 0} → (A → Type 0) → Option A → Type 0
IfThere P None = Unit {0}
IfThere P (Some x) = P x

-- P of each
abbrev pub Each : {A : Type 0} → (A → Type 0) → List A → Type 0
Each P [] = Unit {0}
Each P (x ∷ xs) = P x × Each P xs

-- ---- a piece

-- a finding stands at a token of the piece, or behind it in its line
pub record StandsIn (p : List Tok) (f : Finding) : Type 0 where
  pub index : ℕ
  pub token : Tok
  pub there : slice_get p index ≡ Some token
  pub line : f.line ≡ token.line
  pub column : token.column ≤ f.column

-- there are findings, and all of them stand in the piece
pub record AreIn (p : List Tok) (fs : List Finding) : Type 0 where
  pub some : 0 < length fs
  pub stand : Each (StandsIn p) fs

-- whether the piece is read, and the findings where it is not
abbrev pub TellsPiece : Bool → List Tok → Option (List Finding) → Type 0
TellsPiece read p None = read ≡ true
TellsPiece read p (Some fs) = (read ≡ false) × AreIn p fs

-- there is a value where it is not so
abbrev pub TellsWhether : {A : Type 0} → Bool → Option A → Type 0
TellsWhether read None = read ≡ true
TellsWhether read (Some x) = read ≡ false

abbrev pub IsSome : List Finding → Type 0
IsSome fs = 0 < length fs

abbrev pub IsFirst : Tok → List Tok → Type 0
IsFirst t p = slice_get p 0 ≡ Some t

-- ---- the source of an agent

-- the pieces, the first of which has the number k, that the reader refuses
abbrev pub refused : ℕ → List (List Tok) → List (List Tok)
refused k [] = []
refused k (p ∷ ps) = if is_ok (piece_at k p) then refused (suc k) ps else p ∷ refused (suc k) ps

-- each of these pieces has findings, in their order, and there are no others
pub data AreTold : List (List Tok) → List Finding → Type 0 where
  none_told : AreTold [] []
  more_told : {p : List Tok} {ps : List (List Tok)} {fs gs : List Finding} → AreIn p fs → AreTold ps gs → AreTold (p ∷ ps) (fs ++ gs)

-- where a fault of bytes stands
abbrev pub place_of : LexFault → ℕ
place_of Memory = 0
place_of (BadByte at) = at
place_of (OpenString at) = at
place_of (OpenComment at) = at
place_of (NumberRange at) = at

-- a finding stands at this byte
pub record IsAtByte (bytes : List ℕ) (at : ℕ) (f : Finding) : Type 0 where
  pub line : f.line ≡ (after start (take at bytes)).line
  pub column : f.column ≡ (after start (take at bytes)).column

-- one of the findings stands at the first fault of the bytes
pub record TellsByte (bytes : List ℕ) (fs : List Finding) : Type 0 where
  pub fault : LexFault
  pub first : IsFirstFault bytes fault
  pub before : List Finding
  pub at : Finding
  pub behind : List Finding
  pub parts : fs ≡ before ++ at ∷ behind
  pub stands : IsAtByte bytes (place_of fault) at

-- What is told of the source of an agent: where its bytes are tokens, each piece that is refused, and no other.
pub data TellsAgent (bytes : List ℕ) (fs : List Finding) : Type 0 where
  pieces_told : (ts : List Tok) → AreTokens bytes ts → AreTold (refused 1 (pieces is_end ts)) fs → TellsAgent bytes fs
  byte_told : TellsByte bytes fs → TellsAgent bytes fs
