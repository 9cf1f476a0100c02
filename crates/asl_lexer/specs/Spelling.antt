-- How tokens are spelled.
use Rattle.std.specs.Prelude.{◌≡◌, ℕ, ◌<◌, ◌≤◌, Bool, true, false, ◌&&◌, ◌||◌, ◌==◌, nat_le, List, [], ◌∷◌, length, take}
use Rattle.std.specs.Prelude.{Option, Some, None, codes, if◌then◌else◌}
use Rattle.std.specs.List.{list_all, find}
use Rattle.std.specs.Option.{is_some}
use Rattle.std.specs.Str.{bytes_eq}
use Rattle.asl_lexer.specs.declared.token.TokKind.{TokKind}
use Rattle.asl_lexer.specs.declared.token.TokKind.TheVariants.{Atom, Var, Inner, Number, Str, Sign, End}
use Rattle.asl_lexer.specs.declared.token.Sign as signs
use Rattle.asl_lexer.specs.declared.token.Sign.TheVariants as sign

-- ---- bytes

abbrev pub is_lower : ℕ → Bool
is_lower b = nat_le 97 b && nat_le b 122

-- an upper-case letter or `_`
abbrev pub is_upper : ℕ → Bool
is_upper b = (nat_le 65 b && nat_le b 90) || b == 95

abbrev pub is_digit : ℕ → Bool
is_digit b = nat_le 48 b && nat_le b 57

-- a letter, a digit or `_`
abbrev pub is_word : ℕ → Bool
is_word b = (is_lower b || is_upper b) || is_digit b

-- space, tab, carriage return, line feed
abbrev pub is_blank : ℕ → Bool
is_blank b = ((b == 32 || b == 9) || b == 13) || b == 10

abbrev pub is_no_feed : ℕ → Bool
is_no_feed b = if b == 10 then false else true

-- a byte that stands for itself in a string: from 32 on, other than 127, the quote and the backslash
abbrev pub is_plain : ℕ → Bool
is_plain b = if (b == 127 || b == 34) || b == 92 then false else nat_le 32 b

-- a byte that a backslash may stand before: the quote, the backslash, `n` and `t`
abbrev pub is_escaped : ℕ → Bool
is_escaped b = ((b == 34 || b == 92) || b == 110) || b == 116

-- ---- signs

-- rule: how each sign is spelled
abbrev pub sign_text : signs.Sign → List ℕ
sign_text sign.Open = codes "("
sign_text sign.Close = codes ")"
sign_text sign.OpenSquare = codes "["
sign_text sign.CloseSquare = codes "]"
sign_text sign.OpenBrace = codes "{"
sign_text sign.CloseBrace = codes "}"
sign_text sign.Comma = codes ","
sign_text sign.Semicolon = codes ";"
sign_text sign.Colon = codes ":"
sign_text sign.If = codes ":-"
sign_text sign.LeftArrow = codes "<-"
sign_text sign.RightArrow = codes "->"
sign_text sign.Ampersand = codes "&"
sign_text sign.Bar = codes "|"
sign_text sign.Bang = codes "!"
sign_text sign.Bangs = codes "!!"
sign_text sign.Question = codes "?"
sign_text sign.Plus = codes "+"
sign_text sign.Minus = codes "-"
sign_text sign.MinusPlus = codes "-+"
sign_text sign.Star = codes "*"
sign_text sign.Tilde = codes "~"
sign_text sign.At = codes "@"
sign_text sign.Hash = codes "#"
sign_text sign.Less = codes "<"
sign_text sign.LessEq = codes "<="
sign_text sign.More = codes ">"
sign_text sign.MoreEq = codes ">="
sign_text sign.Same = codes "=="
sign_text sign.Differ = codes "\\=="
sign_text sign.Unify = codes "="

abbrev pub all_signs : List signs.Sign
all_signs =
    sign.Open ∷ sign.Close ∷ sign.OpenSquare ∷ sign.CloseSquare ∷ sign.OpenBrace ∷ sign.CloseBrace ∷ sign.Comma ∷ sign.Semicolon
    ∷ sign.Colon ∷ sign.If ∷ sign.LeftArrow ∷ sign.RightArrow ∷ sign.Ampersand ∷ sign.Bar ∷ sign.Bang ∷ sign.Bangs ∷ sign.Question
    ∷ sign.Plus ∷ sign.Minus ∷ sign.MinusPlus ∷ sign.Star ∷ sign.Tilde ∷ sign.At ∷ sign.Hash ∷ sign.Less ∷ sign.LessEq ∷ sign.More
    ∷ sign.MoreEq ∷ sign.Same ∷ sign.Differ ∷ sign.Unify ∷ []

-- the sign that a whole text spells
unfoldable pub sign_of : List ℕ → Option signs.Sign
sign_of text = find (λ s. bytes_eq text (sign_text s)) all_signs

abbrev pub is_sign : List ℕ → Bool
is_sign text = is_some (sign_of text)

-- ---- whole tokens

abbrev pub is_empty : List ℕ → Bool
is_empty [] = true
is_empty (b ∷ text) = false

-- what is behind the first quote of a string: plain bytes and escapes, and then a quote, which is the last byte;
-- `escaped` says that a backslash stands before
abbrev pub ends_string : Bool → List ℕ → Bool
ends_string escaped [] = false
ends_string true (b ∷ text) = is_escaped b && ends_string false text
ends_string false (b ∷ text) = if b == 34 then is_empty text else (if b == 92 then ends_string true text else is_plain b && ends_string false text)

abbrev pub given : {A : Type 0} → Bool → A → Option A
given b x = if b then Some x else None

-- behind a dot: nothing, or an atom
abbrev pub after_dot : List ℕ → Option TokKind
after_dot [] = Some End
after_dot (b ∷ text) = given (is_lower b && list_all is_word text) Inner

-- rule: the kind of token that a whole text is
abbrev pub kind_of : List ℕ → Option TokKind
kind_of [] = None
kind_of (b ∷ text) =
    if is_lower b then given (list_all is_word text) Atom
    else (if is_upper b then given (list_all is_word text) Var
    else (if is_digit b then given (list_all is_digit text) Number
    else (if b == 46 then after_dot text
    else (if b == 34 then given (ends_string false text) Str
    else given (is_sign (b ∷ text)) Sign))))

-- rule: n bytes at the front are a token, and no more bytes are
pub record IsLongest (bytes : List ℕ) (kind : TokKind) (n : ℕ) : Type 0 where
  pub within : n ≤ length bytes
  pub some : 0 < n
  pub spelled : kind_of (take n bytes) ≡ Some kind
  pub longest : (m : ℕ) → n < m → m ≤ length bytes → kind_of (take m bytes) ≡ None

-- no front of the bytes is a token
abbrev pub NoToken : List ℕ → Type 0
NoToken bytes = (m : ℕ) → m ≤ length bytes → kind_of (take m bytes) ≡ None
