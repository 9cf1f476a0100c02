-- Sums over views, and what is true of each view after a change of one.
use Rattle.std.proofs.Common.{◌≡◌, ℕ, zero, suc, ◌+◌, ◌<◌, ◌≤◌, ◌≢◌, List, [], ◌∷◌, ◌++◌, length, set, sym, refl, ap, subst, ⊎_elim, arith}
use mathlib.Core.Option.{some, some-injective, some-ne-none}
use mathlib.Core.Logic.{dite}
use native.Mathlib.Decide.{dec_le}
use lib.ListN.{get_elem?}
use Rattle.crossbeam_queue.proofs.Lists.{at_set, at_snoc}
use Rattle.mas_board_lists.specs.Lists.{Each, Row, total}

module _ {A : Type 0} where
  pub total_set : (f : A → ℕ) (l : List A) (p : ℕ) (v w : A) → get_elem? l p ≡ some v → total f (set l p w) + f v ≡ total f l + f w
  total_set f [] p v w e = absurd (some-ne-none v (sym e))
  total_set f (x ∷ xs) zero v w e = let s : f x ≡ f v = ap f (some-injective x v e) in omega arith
  total_set f (x ∷ xs) (suc p) v w e = let h = total_set f xs p v w e in omega arith

  pub total_snoc : (f : A → ℕ) (l : List A) (w : A) → total f (l ++ w ∷ []) ≡ total f l + f w
  total_snoc f [] w = omega arith
  total_snoc f (x ∷ xs) w = let h = total_snoc f xs w in omega arith

  pub total_append : (f : A → ℕ) (l m : List A) → total f (l ++ m) ≡ total f l + total f m
  total_append f [] m = omega arith
  total_append f (x ∷ xs) m = let h = total_append f xs m in omega arith

  pub at_total : (f : A → ℕ) (l : List A) (p : ℕ) (v : A) → get_elem? l p ≡ some v → f v ≤ total f l
  at_total f [] p v e = absurd (some-ne-none v (sym e))
  at_total f (x ∷ xs) zero v e = let s : f x ≡ f v = ap f (some-injective x v e) in omega arith
  at_total f (x ∷ xs) (suc p) v e = let h = at_total f xs p v e in omega arith

  pub two_total : (f : A → ℕ) (l : List A) (p q : ℕ) (v u : A) → p ≢ q → get_elem? l p ≡ some v → get_elem? l q ≡ some u → f v + f u ≤ total f l
  two_total f [] p q v u n e d = absurd (some-ne-none v (sym e))
  two_total f (x ∷ xs) zero zero v u n e d = absurd (n refl)
  two_total f (x ∷ xs) zero (suc q) v u n e d = let s : f x ≡ f v = ap f (some-injective x v e) in let h = at_total f xs q u d in omega arith
  two_total f (x ∷ xs) (suc p) zero v u n e d = let s : f x ≡ f u = ap f (some-injective x u d) in let h = at_total f xs p v e in omega arith
  two_total f (x ∷ xs) (suc p) (suc q) v u n e d = let h = two_total f xs p q v u (λ i. n (ap suc i)) e d in omega arith

  pub all_set : (F : A → Type 0) (l : List A) (p : ℕ) (w : A) → F w → ((j : ℕ) (u : A) → j ≢ p → get_elem? l j ≡ some u → F u)
      → (j : ℕ) (u : A) → get_elem? (set l p w) j ≡ some u → F u
  all_set F l p w mine others j u e = ⊎_elim (λ (x : (j ≡ p) × (w ≡ u)). subst F x.1 mine) (λ (x : (j ≢ p) × (get_elem? l j ≡ some u)). others j u x.0 x.1) (at_set l p j w u e)

  pub all_snoc : (F : A → Type 0) (l : List A) (w : A) → F w → ((j : ℕ) (u : A) → get_elem? l j ≡ some u → F u)
      → (j : ℕ) (u : A) → get_elem? (l ++ w ∷ []) j ≡ some u → F u
  all_snoc F l w mine others j u e = ⊎_elim (others j u) (λ (x : w ≡ u). subst F x mine) (at_snoc l w u j e)

  pub each_append : (P : A → Type 0) (l m : List A) → Each P l → Each P m → Each P (l ++ m)
  each_append P [] m a b = b
  each_append P (x ∷ xs) m a b = (a.0, each_append P xs m a.1 b)

  pub each_map : (P Q : A → Type 0) (l : List A) → ((x : A) → P x → Q x) → Each P l → Each Q l
  each_map P Q [] f a = tt
  each_map P Q (x ∷ xs) f a = (f x a.0, each_map P Q xs f a.1)

  pub each_front : (P : A → Type 0) (l : List A) (x : A) → Each P (l ++ x ∷ []) → Each P l × P x
  each_front P [] x h = (tt, h.0)
  each_front P (y ∷ l) x h = let r = each_front P l x h.1 in ((h.0, r.0), r.1)

  pub each_left : (P : A → Type 0) (l m : List A) → Each P (l ++ m) → Each P l
  each_left P [] m h = tt
  each_left P (x ∷ l) m h = (h.0, each_left P l m h.1)

  pub row_push : (P : ℕ → A → Type 0) (k n : ℕ) (l : List A) (x : A) → Row P k l → k + length l ≡ n → P n x → Row P k (l ++ x ∷ [])
  row_push P k n [] x r e h = (subst (λ (m : ℕ). P m x) (let d : n ≡ k = omega arith in d) h, tt)
  row_push P k n (y ∷ l) x r e h = (r.0, row_push P (suc k) n l x r.1 (omega arith) h)

  pub each_row : (P : ℕ → A → Type 0) (Q : A → Type 0) (k : ℕ) (l : List A) → ((n : ℕ) (x : A) → P n x → Q x) → Row P k l → Each Q l
  each_row P Q k [] f h = tt
  each_row P Q k (x ∷ l) f h = (f k x h.0, each_row P Q (suc k) l f h.1)

  -- some item has a part of a total that is more than none
  pub some_at : (f : A → ℕ) (l : List A) → 0 < total f l → (j : ℕ) × (u : A) × (get_elem? l j ≡ some u) × (0 < f u)
  some_at f [] l = absurd (omega arith)
  some_at f (x ∷ xs) l = dite (dec_le 1 (f x)) (λ i. (0, x, refl, omega arith)) (λ n. let r = some_at f xs (omega arith) in (suc r.0, r.1, r.2, r.3))
