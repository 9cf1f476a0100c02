-- What stands behind the first quote of a string. The quote is 34, the backslash 92, the line feed 10.
use Rattle.std.specs.Prelude.{◌≡◌, ℕ, Bool, true, false, not, ◌&&◌, ◌||◌, ◌==◌, List, [], ◌∷◌, ◌++◌, length}
use Rattle.asl_lexer.specs.Spelling.{is_plain, is_escaped}

-- a unit: a backslash with the byte behind it, or another byte, but no quote; a line feed is in none
abbrev pub is_unit : List ℕ → Bool
is_unit (b ∷ []) = not (b == 10 || (b == 34 || b == 92))
is_unit (a ∷ b ∷ []) = a == 92 && not (b == 10)
is_unit _ = false

-- a unit that may stand in a string
abbrev pub is_item : List ℕ → Bool
is_item (b ∷ []) = is_plain b
is_item (a ∷ b ∷ []) = a == 92 && is_escaped b
is_item _ = false

-- such units, one after the other
pub data AreAll (test : List ℕ → Bool) : List ℕ → Type 0 where
  no_unit : AreAll test []
  one_unit : (u text : List ℕ) → test u ≡ true → AreAll test text → AreAll test (u ++ text)

-- rule: a string is closed in its line, by the first quote that is in no unit
pub record IsClosed (text : List ℕ) : Type 0 where
  pub units : List ℕ
  pub rest : List ℕ
  pub are : AreAll is_unit units
  pub whole : text ≡ units ++ 34 ∷ rest

-- closed in its line, and the first unit that may not stand there is behind k bytes
pub record IsBadBehind (text : List ℕ) (k : ℕ) : Type 0 where
  pub good : List ℕ
  pub bad : List ℕ
  pub more : List ℕ
  pub rest : List ℕ
  pub first : AreAll is_item good
  pub unit : is_unit bad ≡ true
  pub wrong : is_item bad ≡ false
  pub others : AreAll is_unit more
  pub whole : text ≡ good ++ (bad ++ (more ++ 34 ∷ rest))
  pub place : k ≡ length good
