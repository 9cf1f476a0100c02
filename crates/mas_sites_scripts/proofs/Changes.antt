-- Lists of which one item is changed.
use Rattle.std.proofs.Common.{ℕ, zero, suc, ◌≡◌, ◌≢◌, ◌⊎◌, inl, inr, arith, List, [], ◌∷◌, length, slice_get, slice_set, None, Some, refl, ap, sym}
use Rattle.mas_sites_scripts.specs.Scripts.{change}

pub same_or : (i j : ℕ) → (i ≡ j) ⊎ (i ≢ j)
same_or zero zero = inl refl
same_or zero (suc j) = inr (λ e. absurd (omega arith))
same_or (suc i) zero = inr (λ e. absurd (omega arith))
same_or (suc i) (suc j) = elim (same_or i j) [
  | inl e ↦ inl (ap suc e)
  | inr n ↦ inr (λ e. n (omega arith))
]

pub change_length : {X : Type 0} (i : ℕ) (f : X → X) (xs : List X) → length (change i f xs) ≡ length xs
change_length i f [] = refl
change_length zero f (x ∷ xs) = refl
change_length (suc i) f (x ∷ xs) = ap suc (change_length i f xs)

-- ---- what stands at a place

pub get_changed : {X : Type 0} (i : ℕ) (f : X → X) (xs : List X) (x : X) → slice_get xs i ≡ Some x → slice_get (change i f xs) i ≡ Some (f x)
get_changed i f [] x e = cc
get_changed zero f (y ∷ xs) x e = let s : y ≡ x = cc in ap (λ z. Some (f z)) s
get_changed (suc i) f (y ∷ xs) x e = get_changed i f xs x e

pub get_other : {X : Type 0} (i j : ℕ) (f : X → X) (xs : List X) → i ≢ j → slice_get (change i f xs) j ≡ slice_get xs j
get_other i j f [] n = refl
get_other zero zero f (x ∷ xs) n = absurd (n refl)
get_other zero (suc j) f (x ∷ xs) n = refl
get_other (suc i) zero f (x ∷ xs) n = refl
get_other (suc i) (suc j) f (x ∷ xs) n = get_other i j f xs (λ e. n (ap suc e))

pub get_none : {X : Type 0} (i : ℕ) (f : X → X) (xs : List X) → slice_get xs i ≡ None → change i f xs ≡ xs
get_none i f [] e = refl
get_none zero f (x ∷ xs) e = cc
get_none (suc i) f (x ∷ xs) e = ap (λ l. x ∷ l) (get_none i f xs e)

-- ---- where an item is set

pub set_changed : {X : Type 0} (i : ℕ) (f : X → X) (xs : List X) (x : X) → slice_set (change i f xs) i (f x) ≡ change i f (slice_set xs i x)
set_changed i f [] x = refl
set_changed zero f (y ∷ xs) x = refl
set_changed (suc i) f (y ∷ xs) x = ap (λ l. y ∷ l) (set_changed i f xs x)

pub set_other : {X : Type 0} (i j : ℕ) (f : X → X) (xs : List X) (x : X) → i ≢ j → slice_set (change i f xs) j x ≡ change i f (slice_set xs j x)
set_other i j f [] x n = refl
set_other zero zero f (y ∷ xs) x n = absurd (n refl)
set_other zero (suc j) f (y ∷ xs) x n = refl
set_other (suc i) zero f (y ∷ xs) x n = refl
set_other (suc i) (suc j) f (y ∷ xs) x n = ap (λ l. y ∷ l) (set_other i j f xs x (λ e. n (ap suc e)))

pub get_set : {X : Type 0} (i : ℕ) (xs : List X) (x y : X) → slice_get xs i ≡ Some y → slice_get (slice_set xs i x) i ≡ Some x
get_set i [] x y e = cc
get_set zero (z ∷ xs) x y e = refl
get_set (suc i) (z ∷ xs) x y e = get_set i xs x y e

pub get_set_other : {X : Type 0} (i j : ℕ) (xs : List X) (x : X) → i ≢ j → slice_get (slice_set xs j x) i ≡ slice_get xs i
get_set_other i j [] x n = refl
get_set_other zero zero (y ∷ xs) x n = absurd (n refl)
get_set_other zero (suc j) (y ∷ xs) x n = refl
get_set_other (suc i) zero (y ∷ xs) x n = refl
get_set_other (suc i) (suc j) (y ∷ xs) x n = get_set_other i j xs x (λ e. n (ap suc e))

-- the item at a place is replaced by what it is changed into
pub changed_is : {X : Type 0} (xs : List X) (i : ℕ) (f : X → X) (x : X) → slice_get xs i ≡ Some x → slice_set xs i (f x) ≡ change i f xs
changed_is [] i f x e = refl
changed_is (y ∷ xs) zero f x e = let s : y ≡ x = cc in ap (λ z. f z ∷ xs) (sym s)
changed_is (y ∷ xs) (suc i) f x e = ap (λ l. y ∷ l) (changed_is xs i f x e)
