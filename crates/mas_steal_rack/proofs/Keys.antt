-- Two lists side by side, and one of them changed at a place.
use Rattle.std.proofs.Common.{◌≡◌, ℕ, zero, suc, ◌+◌, ◌<◌, List, [], ◌∷◌, length, set, sym, refl, ap, subst, arith}
use Rattle.std.specs.Prelude.{slice_index_or}
use Rattle.mas_board_lists.specs.Lists.{total}
use Rattle.mas_steal_rack.specs.Hands.{Both}

module _ {A B : Type 0} (P : A → B → Type 0) where
  pub both_length : (xs : List A) (ys : List B) → Both P xs ys → length xs ≡ length ys
  both_length [] [] h = refl
  both_length [] (y ∷ ys) h = absurd h
  both_length (x ∷ xs) [] h = absurd h
  both_length (x ∷ xs) (y ∷ ys) h = ap suc (both_length xs ys h.1)

  pub both_at : (xs : List A) (ys : List B) (i : ℕ) (x : A) (y : B) → Both P xs ys → i < length xs → x ≡ slice_index_or xs i x → y ≡ slice_index_or ys i y → P x y
  both_at [] ys i x y h l d e = absurd (omega arith)
  both_at (a ∷ xs) [] i x y h l d e = absurd h
  both_at (a ∷ xs) (b ∷ ys) zero x y h l d e = subst (λ (t : A × B). P t.0 t.1) (λ i. (sym d i, sym e i)) h.0
  both_at (a ∷ xs) (b ∷ ys) (suc i) x y h l d e = both_at xs ys i x y h.1 (omega arith) d e

  pub both_set : (xs : List A) (ys : List B) (i : ℕ) (x : A) (y : B) → Both P xs ys → i < length xs → x ≡ slice_index_or xs i x → P x y → Both P xs (set ys i y)
  both_set [] ys i x y h l d p = absurd (omega arith)
  both_set (a ∷ xs) [] i x y h l d p = absurd h
  both_set (a ∷ xs) (b ∷ ys) zero x y h l d p = (subst (λ (t : A). P t y) d p, h.1)
  both_set (a ∷ xs) (b ∷ ys) (suc i) x y h l d p = (h.0, both_set xs ys i x y h.1 (omega arith) d p)

pub total_at : {B : Type 0} (f : B → ℕ) (ys : List B) (i : ℕ) (y w : B) → i < length ys → y ≡ slice_index_or ys i y → total f (set ys i w) + f y ≡ total f ys + f w
total_at f [] i y w l e = absurd (omega arith)
total_at f (b ∷ ys) zero y w l e = let s = ap f e in omega arith
total_at f (b ∷ ys) (suc i) y w l e = let h = total_at f ys i y w (omega arith) e in omega arith
