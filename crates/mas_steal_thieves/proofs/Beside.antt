-- Two lists side by side, of which one grows or changes.
use Rattle.std.proofs.Common.{◌≡◌, ℕ, zero, suc, ◌+◌, ◌<◌, List, [], ◌∷◌, ◌++◌, length, set, sym, refl, ap, subst, arith}
use Rattle.std.specs.Prelude.{map, Some, slice_get, slice_index_or}
use Rattle.mas_board_lists.specs.Lists.{Each}
use Rattle.mas_steal_rack.specs.Hands.{Both}
use Rattle.mas_steal_thieves.specs.Closing.{Beside}

pub plus_one : (n : ℕ) → suc n ≡ n + 1
plus_one n = omega arith

module _ {A B : Type 0} (P : A → B → Type 0) where
  -- the next of the second list goes with what stands at its place
  pub beside_more : (xs : List A) (ys : List B) (n : ℕ) (x : A) (y : B) → Beside P xs ys → n ≡ length ys → n < length xs → x ≡ slice_index_or xs n x → P x y → Beside P xs (ys ++ y ∷ [])
  beside_more [] ys n x y h e l at p = absurd (omega arith)
  beside_more (a ∷ xs) [] zero x y h e l at p = (subst (λ z. P z y) at p, tt)
  beside_more (a ∷ xs) [] (suc n) x y h e l at p = absurd (omega arith)
  beside_more (a ∷ xs) (b ∷ ys) zero x y h e l at p = absurd (omega arith)
  beside_more (a ∷ xs) (b ∷ ys) (suc n) x y h e l at p = (h.0, beside_more xs ys n x y h.1 (omega arith) (omega arith) at p)

  -- the same, as the first list changes there
  pub beside_set : (xs : List A) (ys : List B) (n : ℕ) (x : A) (y : B) → Beside P xs ys → n ≡ length ys → n < length xs → P x y → Beside P (set xs n x) (ys ++ y ∷ [])
  beside_set [] ys n x y h e l p = absurd (omega arith)
  beside_set (a ∷ xs) [] zero x y h e l p = (p, tt)
  beside_set (a ∷ xs) [] (suc n) x y h e l p = absurd (omega arith)
  beside_set (a ∷ xs) (b ∷ ys) zero x y h e l p = absurd (omega arith)
  beside_set (a ∷ xs) (b ∷ ys) (suc n) x y h e l p = (h.0, beside_set xs ys n x y h.1 (omega arith) (omega arith) p)

  pub beside_both : (xs : List A) (ys : List B) → Beside P xs ys → length xs ≡ length ys → Both P xs ys
  beside_both [] [] h e = tt
  beside_both [] (b ∷ ys) h e = absurd h
  beside_both (a ∷ xs) [] h e = absurd (omega arith)
  beside_both (a ∷ xs) (b ∷ ys) h e = (h.0, beside_both xs ys h.1 (omega arith))

  pub both_snoc : (xs : List A) (ys : List B) (x : A) (y : B) → Both P xs ys → P x y → Both P (xs ++ x ∷ []) (ys ++ y ∷ [])
  both_snoc [] [] x y h p = (p, tt)
  both_snoc [] (b ∷ ys) x y h p = absurd h
  both_snoc (a ∷ xs) [] x y h p = absurd h
  both_snoc (a ∷ xs) (b ∷ ys) x y h p = (h.0, both_snoc xs ys x y h.1 p)

  -- what is the same of two that go together is the same of both lists
  pub both_same : {C : Type 0} (f : A → C) (g : B → C) (xs : List A) (ys : List B) → ((x : A) (y : B) → P x y → g y ≡ f x) → Both P xs ys → map g ys ≡ map f xs
  both_same f g [] [] k h = refl
  both_same f g [] (b ∷ ys) k h = absurd h
  both_same f g (a ∷ xs) [] k h = absurd h
  both_same f g (a ∷ xs) (b ∷ ys) k h = let e = k a b h.0 in let r = both_same f g xs ys k h.1 in λ i. e i ∷ r i

  -- with what is true of each of the first list
  pub both_each : (F : A → Type 0) (G : B → Type 0) (xs : List A) (ys : List B) → ((x : A) (y : B) → F x → P x y → G y) → Each F xs → Both P xs ys → Each G ys
  both_each F G [] [] k e h = tt
  both_each F G [] (b ∷ ys) k e h = absurd h
  both_each F G (a ∷ xs) [] k e h = absurd h
  both_each F G (a ∷ xs) (b ∷ ys) k e h = (k a b e.0 h.0, both_each F G xs ys k e.1 h.1)

-- what goes with the same goes together
pub both_then : {A B C : Type 0} (P : A → B → Type 0) (Q : A → C → Type 0) (R : B → C → Type 0) (xs : List A) (ys : List B) (zs : List C)
    → ((x : A) (y : B) (z : C) → P x y → Q x z → R y z) → Both P xs ys → Both Q xs zs → Both R ys zs
both_then P Q R [] [] [] k h i = tt
both_then P Q R [] [] (c ∷ zs) k h i = absurd i
both_then P Q R [] (b ∷ ys) zs k h i = absurd h
both_then P Q R (a ∷ xs) [] zs k h i = absurd h
both_then P Q R (a ∷ xs) (b ∷ ys) [] k h i = absurd i
both_then P Q R (a ∷ xs) (b ∷ ys) (c ∷ zs) k h i = (k a b c h.0 i.0, both_then P Q R xs ys zs k h.1 i.1)

-- one change after another
pub both_after : {A B C : Type 0} (P : A → B → Type 0) (Q : B → C → Type 0) (R : A → C → Type 0) (xs : List A) (ys : List B) (zs : List C)
    → ((x : A) (y : B) (z : C) → P x y → Q y z → R x z) → Both P xs ys → Both Q ys zs → Both R xs zs
both_after P Q R [] [] [] k h i = tt
both_after P Q R [] [] (c ∷ zs) k h i = absurd i
both_after P Q R [] (b ∷ ys) zs k h i = absurd h
both_after P Q R (a ∷ xs) [] zs k h i = absurd h
both_after P Q R (a ∷ xs) (b ∷ ys) [] k h i = absurd i
both_after P Q R (a ∷ xs) (b ∷ ys) (c ∷ zs) k h i = (k a b c h.0 i.0, both_after P Q R xs ys zs k h.1 i.1)

pub both_self : {A : Type 0} (P : A → A → Type 0) (xs : List A) → ((x : A) → P x x) → Both P xs xs
both_self P [] k = tt
both_self P (x ∷ xs) k = (k x, both_self P xs k)

-- the first n of a list were changed

abbrev pub Changed : {A : Type 0} → (A → A → Type 0) → ℕ → List A → List A → Type 0
Changed P zero olds news = news ≡ olds
Changed P (suc n) [] news = ⊥
Changed P (suc n) (o ∷ olds) [] = ⊥
Changed P (suc n) (o ∷ olds) (w ∷ news) = P o w × Changed P n olds news

module _ {A : Type 0} (P : A → A → Type 0) where
  -- the next was not changed yet
  pub changed_at : (n : ℕ) (olds news : List A) (x : A) → Changed P n olds news → n < length news → x ≡ slice_index_or news n x → (n < length olds) × (x ≡ slice_index_or olds n x)
  changed_at zero olds news x h l e = subst (λ zs. (0 < length zs) × (x ≡ slice_index_or zs 0 x)) h (l, e)
  changed_at (suc n) [] news x h l e = absurd h
  changed_at (suc n) (o ∷ olds) [] x h l e = absurd h
  changed_at (suc n) (o ∷ olds) (w ∷ news) x h l e = let r = changed_at n olds news x h.1 (omega arith) e in (omega arith, r.1)

  changed_first : (news : List A) (x y : A) → 0 < length news → x ≡ slice_index_or news 0 x → P x y → Changed P (suc zero) news (set news 0 y)
  changed_first [] x y l e p = absurd (omega arith)
  changed_first (w ∷ news) x y l e p = (subst (λ z. P z y) e p, refl)

  pub changed_more : (n : ℕ) (olds news : List A) (x y : A) → Changed P n olds news → n < length news → x ≡ slice_index_or news n x → P x y → Changed P (suc n) olds (set news n y)
  changed_more zero olds news x y h l e p = subst (λ zs. Changed P (suc zero) zs (set news 0 y)) h (changed_first news x y l e p)
  changed_more (suc n) [] news x y h l e p = absurd h
  changed_more (suc n) (o ∷ olds) [] x y h l e p = absurd h
  changed_more (suc n) (o ∷ olds) (w ∷ news) x y h l e p = (h.0, changed_more n olds news x y h.1 (omega arith) e p)

  pub changed_length : (n : ℕ) (olds news : List A) → Changed P n olds news → length news ≡ length olds
  changed_length zero olds news h = ap (λ zs. length zs) h
  changed_length (suc n) [] news h = absurd h
  changed_length (suc n) (o ∷ olds) [] h = absurd h
  changed_length (suc n) (o ∷ olds) (w ∷ news) h = ap suc (changed_length n olds news h.1)

  changed_none : (olds news : List A) → news ≡ olds → length olds ≡ 0 → Both P olds news
  changed_none [] [] e l = tt
  changed_none [] (w ∷ news) e l = absurd (let k = ap (λ zs. length zs) e in omega arith)
  changed_none (o ∷ olds) news e l = absurd (omega arith)

  pub changed_all : (n : ℕ) (olds news : List A) → Changed P n olds news → n ≡ length olds → Both P olds news
  changed_all zero olds news h e = changed_none olds news h (sym e)
  changed_all (suc n) [] news h e = absurd h
  changed_all (suc n) (o ∷ olds) [] h e = absurd h
  changed_all (suc n) (o ∷ olds) (w ∷ news) h e = (h.0, changed_all n olds news h.1 (omega arith))

pub map_behind : {A B : Type 0} (f : A → B) (xs ys : List A) (x : A) → slice_get (map f (xs ++ x ∷ ys)) (length xs) ≡ Some (f x)
map_behind f [] ys x = refl
map_behind f (a ∷ xs) ys x = map_behind f xs ys x
