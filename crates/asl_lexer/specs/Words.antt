-- What tokens are to a grammar, and how they are cut into pieces.
use Rattle.std.specs.Prelude.{◌≡◌, All, ℕ, suc, ◌<◌, Bool, true, false, List, [], ◌∷◌, ◌++◌, length, Option, Some, None, codes, if◌then◌else◌}
use Rattle.std.specs.Borrow.{Bor}
use Rattle.std.specs.Option.{option_map, option_map_or}
use Rattle.std.specs.Str.{bytes_eq}
use Rattle.asl_lexer.specs.declared.token.Tok.{Tok}
use Rattle.asl_lexer.specs.declared.token.TokKind.{TokKind}
use Rattle.asl_lexer.specs.declared.token.TokKind.TheVariants as kind
use Rattle.asl_lexer.specs.declared.token.Word.{Word}
use Rattle.asl_lexer.specs.declared.token.Word.TheVariants.{Not, Div, Mod, True, False, Atom, Var, Inner, Number, Str, Sign, End, Other}
use Rattle.asl_lexer.specs.Spelling.{sign_of}
use Rattle.asl_lexer.specs.Lexing.{AreTokens}

-- the reserved words are no atoms
unfoldable pub atom_word : List ℕ → Word
atom_word text =
    if bytes_eq text (codes "not") then Not
    else (if bytes_eq text (codes "div") then Div
    else (if bytes_eq text (codes "mod") then Mod
    else (if bytes_eq text (codes "true") then True
    else (if bytes_eq text (codes "false") then False
    else Atom))))

abbrev pub word_of : TokKind → List ℕ → Word
word_of kind.Atom text = atom_word text
word_of kind.Var text = Var
word_of kind.Inner text = Inner
word_of kind.Number text = Number
word_of kind.Str text = Str
word_of kind.Sign text = option_map_or Sign (sign_of text) Other
word_of kind.End text = End

-- rule: the word that a token is to a grammar
abbrev pub word : Tok → Word
word t = word_of t.kind t.text

-- a token that is something to a grammar
abbrev pub IsKnown : Tok → Type 0
IsKnown t = word t ≡ Other → ⊥

-- the tokens of bytes are all known
abbrev pub AllKnown : Type 0
AllKnown = (bytes : List ℕ) (ts : List Tok) → AreTokens bytes ts → All IsKnown ts

-- ---- pieces

abbrev pub is_end : Word → Bool
is_end End = true
is_end _ = false

-- a token before the first piece
abbrev pub onto : Tok → List (List Tok) → List (List Tok)
onto t [] = (t ∷ []) ∷ []
onto t (p ∷ ps) = (t ∷ p) ∷ ps

-- rule: the tokens, cut after each whose word ends a piece; a rest without such a one is a piece too
unfoldable pub pieces : (Word → Bool) → List Tok → List (List Tok)
pieces ends [] = []
pieces ends (t ∷ ts) = if ends (word t) then (t ∷ []) ∷ pieces ends ts else onto t (pieces ends ts)

-- p is the first piece of the tokens, and us are the tokens behind it
pub record IsCut (ends : Word → Bool) (ts p us : List Tok) : Type 0 where
  pub some : 0 < length p
  pub whole : ts ≡ p ++ us
  pub parts : pieces ends ts ≡ p ∷ pieces ends us

-- the first piece is cut off, unless there are no tokens
abbrev pub Cuts : (Word → Bool) → List Tok → Option (List Tok × List Tok) → Type 0
Cuts ends ts None = ts ≡ []
Cuts ends ts (Some x) = IsCut ends ts x.0 x.1

abbrev pub view_cut : Option (Bor (List Tok) × Bor (List Tok)) → Option (List Tok × List Tok)
view_cut o = option_map (λ x. (x.0.now, x.1.now)) o

-- how many tokens the first piece has
abbrev pub piece_len : (Word → Bool) → List Tok → ℕ
piece_len ends [] = 0
piece_len ends (t ∷ ts) = if ends (word t) then 1 else suc (piece_len ends ts)
