-- Texts in a picture: which bytes are written otherwise than they are.
use Rattle.std.specs.Prelude.{ℕ, Bool, ◌||◌, ◌==◌, ◌≢◌, nat_le, List, [], ◌∷◌, ◌++◌, codes, if◌then◌else◌}
use Rattle.std.specs.List.{flat_map}

-- below the blank, or 127: no byte of a picture's text
abbrev pub is_control : ℕ → Bool
is_control b = nat_le b 31 || b == 127

abbrev pub escaped : ℕ → List ℕ
escaped b =
    if b == 60 then codes "&lt;" else
    if b == 62 then codes "&gt;" else
    if b == 38 then codes "&amp;" else
    if b == 34 then codes "&quot;" else
    if is_control b then codes "?" else b ∷ []

abbrev pub escaped_text : List ℕ → List ℕ
escaped_text text = flat_map escaped text

-- Made of bytes that are none of `<`, `>`, `&` and `"`, and of the four names for them.
pub data IsPlain : List ℕ → Type 0 where
  nothing : IsPlain []
  byte : (b : ℕ) (rest : List ℕ) → b ≢ 60 → b ≢ 62 → b ≢ 38 → b ≢ 34 → IsPlain rest → IsPlain (b ∷ rest)
  less : (rest : List ℕ) → IsPlain rest → IsPlain (codes "&lt;" ++ rest)
  more : (rest : List ℕ) → IsPlain rest → IsPlain (codes "&gt;" ++ rest)
  ampersand : (rest : List ℕ) → IsPlain rest → IsPlain (codes "&amp;" ++ rest)
  quote : (rest : List ℕ) → IsPlain rest → IsPlain (codes "&quot;" ++ rest)

-- each escaped text is
abbrev pub EscapedIsPlain : Type 0
EscapedIsPlain = (text : List ℕ) → IsPlain (escaped_text text)
