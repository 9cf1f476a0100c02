-- Blanks and comments, which stand between tokens. The slash is 47, the star 42, the line feed 10.
use Rattle.std.specs.Prelude.{◌≡◌, ℕ, ◌+◌, Bool, true, false, ◌&&◌, ◌||◌, ◌==◌, List, [], ◌∷◌, ◌++◌, length, codes}
use Rattle.std.specs.List.{list_all}
use Rattle.asl_lexer.specs.Spelling.{is_blank, is_no_feed}

-- no `*/` stands in it
abbrev pub NoClose : List ℕ → Type 0
NoClose text = (front rest : List ℕ) → text ≡ front ++ (codes "*/" ++ rest) → ⊥

-- a line ends here: at its line feed, or with the bytes
abbrev pub EndsLine : List ℕ → Type 0
EndsLine [] = Unit {0}
EndsLine (b ∷ rest) = b ≡ 10

-- rule: the first n bytes are a blank byte, or a comment: `//` up to the line feed or the end, or `/*` up to the next `*/`.
pub data BlankAt (bytes : List ℕ) : ℕ → Type 0 where
  blank_byte : (b : ℕ) (rest : List ℕ) → bytes ≡ b ∷ rest → is_blank b ≡ true → BlankAt bytes 1
  line : (text rest : List ℕ) → bytes ≡ codes "//" ++ (text ++ rest) → list_all is_no_feed text ≡ true → EndsLine rest → BlankAt bytes (length text + 2)
  comment : (text rest : List ℕ) → bytes ≡ codes "/*" ++ (text ++ (codes "*/" ++ rest)) → NoClose (text ++ codes "*") → BlankAt bytes (length text + 4)

-- `/*` without its `*/`
pub record IsOpenComment (bytes : List ℕ) : Type 0 where
  pub text : List ℕ
  pub whole : bytes ≡ codes "/*" ++ text
  pub open_behind : NoClose text

-- a blank byte, `//` or `/*` stands at the front
abbrev pub begins_blank : List ℕ → Bool
begins_blank [] = false
begins_blank (a ∷ []) = is_blank a
begins_blank (a ∷ b ∷ rest) = is_blank a || (a == 47 && (b == 47 || b == 42))
