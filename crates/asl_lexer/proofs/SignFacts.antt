-- What the table says of one byte, of two and of three.
use Rattle.std.proofs.Common.{◌≡◌, ℕ, ◌<◌, ◌≤◌, List, [], ◌∷◌, length, Option, Some, None, refl, sym, ap, ◌∙◌, get_or, arith}
use Rattle.asl_lexer.specs.declared.token.Sign as signs
use Rattle.asl_lexer.specs.declared.token.Sign.TheVariants as sign
use Rattle.asl_lexer.specs.Spelling.{sign_text, sign_of}
use Rattle.asl_lexer.proofs.Table.{spelled, read}

-- ---- a sign

of_text : (s : signs.Sign) (text : List ℕ) → text ≡ sign_text s → Some s ≡ sign_of text
of_text s text e = sym (ap sign_of e ∙ spelled s)

pub one : (s : signs.Sign) (a : ℕ) → length (sign_text s) ≡ 1 → a ≡ get_or (sign_text s) 0 0 → Some s ≡ sign_of (a ∷ [])
one s a n e = of_text s (a ∷ []) (go (sign_text s) n e)
  where
    go : (text : List ℕ) → length text ≡ 1 → a ≡ get_or text 0 0 → a ∷ [] ≡ text
    go [] n e = absurd (omega arith)
    go (b ∷ []) n e = ap (λ (x : ℕ). x ∷ []) e
    go (b ∷ c ∷ text) n e = absurd (omega arith)

pub two : (s : signs.Sign) (a b : ℕ) → length (sign_text s) ≡ 2 → a ≡ get_or (sign_text s) 0 0 → b ≡ get_or (sign_text s) 1 0
    → Some s ≡ sign_of (a ∷ b ∷ [])
two s a b n e f = of_text s (a ∷ b ∷ []) (go (sign_text s) n e f)
  where
    go : (text : List ℕ) → length text ≡ 2 → a ≡ get_or text 0 0 → b ≡ get_or text 1 0 → a ∷ b ∷ [] ≡ text
    go [] n e f = absurd (omega arith)
    go (x ∷ []) n e f = absurd (omega arith)
    go (x ∷ y ∷ []) n e f = λ i. e i ∷ f i ∷ []
    go (x ∷ y ∷ z ∷ text) n e f = absurd (omega arith)

pub differ : (a b c : ℕ) → a ≡ 92 → b ≡ 61 → c ≡ 61 → Some sign.Differ ≡ sign_of (a ∷ b ∷ c ∷ [])
differ a b c e f g = of_text sign.Differ (a ∷ b ∷ c ∷ []) (λ i. e i ∷ f i ∷ g i ∷ [])

-- ---- and none

none : (text : List ℕ) → ((s : signs.Sign) → text ≡ sign_text s → ⊥) → None ≡ sign_of text
none text h = go (sign_of text) refl
  where
    go : (o : Option signs.Sign) → sign_of text ≡ o → None ≡ o
    go None e = refl
    go (Some s) e = absurd (h s (read text s e))

pub no_one : (a : ℕ)
    → (a ≡ 40 → ⊥) → (a ≡ 41 → ⊥) → (a ≡ 91 → ⊥) → (a ≡ 93 → ⊥) → (a ≡ 123 → ⊥) → (a ≡ 125 → ⊥)
    → (a ≡ 44 → ⊥) → (a ≡ 59 → ⊥) → (a ≡ 58 → ⊥) → (a ≡ 33 → ⊥) → (a ≡ 63 → ⊥) → (a ≡ 126 → ⊥)
    → (a ≡ 64 → ⊥) → (a ≡ 35 → ⊥) → (a ≡ 38 → ⊥) → (a ≡ 124 → ⊥) → (a ≡ 43 → ⊥) → (a ≡ 45 → ⊥)
    → (a ≡ 42 → ⊥) → (a ≡ 60 → ⊥) → (a ≡ 62 → ⊥) → (a ≡ 61 → ⊥)
    → None ≡ sign_of (a ∷ [])
no_one a n40 n41 n91 n93 n123 n125 n44 n59 n58 n33 n63 n126 n64 n35 n38 n124 n43 n45 n42 n60 n62 n61 = none (a ∷ []) never
  where
    never : (s : signs.Sign) → a ∷ [] ≡ sign_text s → ⊥
    never sign.Open e = let same : a ≡ 40 = cc in n40 same
    never sign.Close e = let same : a ≡ 41 = cc in n41 same
    never sign.OpenSquare e = let same : a ≡ 91 = cc in n91 same
    never sign.CloseSquare e = let same : a ≡ 93 = cc in n93 same
    never sign.OpenBrace e = let same : a ≡ 123 = cc in n123 same
    never sign.CloseBrace e = let same : a ≡ 125 = cc in n125 same
    never sign.Comma e = let same : a ≡ 44 = cc in n44 same
    never sign.Semicolon e = let same : a ≡ 59 = cc in n59 same
    never sign.Colon e = let same : a ≡ 58 = cc in n58 same
    never sign.Bang e = let same : a ≡ 33 = cc in n33 same
    never sign.Question e = let same : a ≡ 63 = cc in n63 same
    never sign.Tilde e = let same : a ≡ 126 = cc in n126 same
    never sign.At e = let same : a ≡ 64 = cc in n64 same
    never sign.Hash e = let same : a ≡ 35 = cc in n35 same
    never sign.Ampersand e = let same : a ≡ 38 = cc in n38 same
    never sign.Bar e = let same : a ≡ 124 = cc in n124 same
    never sign.Plus e = let same : a ≡ 43 = cc in n43 same
    never sign.Minus e = let same : a ≡ 45 = cc in n45 same
    never sign.Star e = let same : a ≡ 42 = cc in n42 same
    never sign.Less e = let same : a ≡ 60 = cc in n60 same
    never sign.More e = let same : a ≡ 62 = cc in n62 same
    never sign.Unify e = let same : a ≡ 61 = cc in n61 same
    never sign.If e = cc
    never sign.LeftArrow e = cc
    never sign.RightArrow e = cc
    never sign.Bangs e = cc
    never sign.MinusPlus e = cc
    never sign.LessEq e = cc
    never sign.MoreEq e = cc
    never sign.Same e = cc
    never sign.Differ e = cc

pub no_two : (a b : ℕ)
    → (a ≡ 58 → b ≡ 45 → ⊥) → (a ≡ 60 → b ≡ 45 → ⊥) → (a ≡ 45 → b ≡ 62 → ⊥) → (a ≡ 33 → b ≡ 33 → ⊥)
    → (a ≡ 45 → b ≡ 43 → ⊥) → (a ≡ 60 → b ≡ 61 → ⊥) → (a ≡ 62 → b ≡ 61 → ⊥) → (a ≡ 61 → b ≡ 61 → ⊥)
    → None ≡ sign_of (a ∷ b ∷ [])
no_two a b n0 n1 n2 n3 n4 n5 n6 n7 = none (a ∷ b ∷ []) never
  where
    never : (s : signs.Sign) → a ∷ b ∷ [] ≡ sign_text s → ⊥
    never sign.If e = let first : a ≡ 58 = cc in let second : b ≡ 45 = cc in n0 first second
    never sign.LeftArrow e = let first : a ≡ 60 = cc in let second : b ≡ 45 = cc in n1 first second
    never sign.RightArrow e = let first : a ≡ 45 = cc in let second : b ≡ 62 = cc in n2 first second
    never sign.Bangs e = let first : a ≡ 33 = cc in let second : b ≡ 33 = cc in n3 first second
    never sign.MinusPlus e = let first : a ≡ 45 = cc in let second : b ≡ 43 = cc in n4 first second
    never sign.LessEq e = let first : a ≡ 60 = cc in let second : b ≡ 61 = cc in n5 first second
    never sign.MoreEq e = let first : a ≡ 62 = cc in let second : b ≡ 61 = cc in n6 first second
    never sign.Same e = let first : a ≡ 61 = cc in let second : b ≡ 61 = cc in n7 first second
    never _ e = cc

pub no_three : (a b c : ℕ) → (a ≡ 92 → b ≡ 61 → c ≡ 61 → ⊥) → None ≡ sign_of (a ∷ b ∷ c ∷ [])
no_three a b c n = none (a ∷ b ∷ c ∷ []) never
  where
    never : (s : signs.Sign) → a ∷ b ∷ c ∷ [] ≡ sign_text s → ⊥
    never sign.Differ e = let first : a ≡ 92 = cc in let second : b ≡ 61 = cc in let third : c ≡ 61 = cc in n first second third
    never _ e = cc

pub no_short : (text : List ℕ) → length text ≡ 0 → None ≡ sign_of text
no_short [] e = none [] never
  where
    never : (s : signs.Sign) → [] ≡ sign_text s → ⊥
    never sign.Open e = cc
    never _ e = cc
no_short (b ∷ text) e = absurd (omega arith)

pub no_long : (text : List ℕ) → 3 < length text → None ≡ sign_of text
no_long text lt = none text (λ s e. absurd (omega (arith, ap length e, short s)))
  where
    short : (s : signs.Sign) → length (sign_text s) ≤ 3
    short sign.Open = omega arith
    short _ = omega arith
