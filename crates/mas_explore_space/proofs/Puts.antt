-- A change at one place of a list.
use Rattle.std.proofs.Common.{ℕ, zero, suc, ◌≡◌, ◌+◌, ◌-◌, ◌<◌, arith, Bool, true, false, nat_eq, All, List, [], ◌∷◌, ◌++◌, length, drop, slice_get, slice_set, slice_index_or, Option, None, Some, refl, ap, sym, ◌∙◌, subst}
use Rattle.std.proofs.lemmas.List.{length-set}
use Rattle.std.proofs.lemmas.Option.{same_Some, none-some}
use Rattle.mas_core_laws.proofs.Places.{set_here, set_other}

-- one list is the other one, but for what stands at this place
pub record IsPut {X : Type 0} (xs ys : List X) (place : ℕ) (y : X) : Type 0 where
  pub number : length ys ≡ length xs
  pub here : slice_get ys place ≡ Some y
  pub others : (other : ℕ) → nat_eq place other ≡ false → slice_get ys other ≡ slice_get xs other

pub put_set : {X : Type 0} (xs : List X) (place : ℕ) (y : X) → place < length xs → IsPut xs (slice_set xs place y) place y
put_set xs place y l = record { number = length-set xs place y; here = set_here xs place y l; others = λ other e. set_other xs place other y e }

pub put_same : {X : Type 0} (xs : List X) (place : ℕ) (y : X) → slice_get xs place ≡ Some y → IsPut xs xs place y
put_same xs place y e = record { number = refl; here = e; others = λ other f. refl }

-- what is known of each place
pub item_at : {X : Type 0} (xs : List X) (i : ℕ) → i < length xs → (x : X) × (slice_get xs i ≡ Some x)
item_at [] i l = absurd (omega arith)
item_at (x ∷ xs) zero l = (x, refl)
item_at (x ∷ xs) (suc i) l = item_at xs i (omega arith)

pub all_later : {X : Type 0} (P : X → Type 0) (xs : List X) → All P xs → All P (drop 1 xs)
all_later P [] h i d l = h i d l
all_later P (x ∷ xs) h i d l = h (suc i) d (omega arith)

pub all_last : {X : Type 0} (P : X → Type 0) (xs : List X) (x : X) → All P xs → P x → All P (xs ++ x ∷ [])
all_last P [] x h p zero d l = p
all_last P [] x h p (suc i) d l = absurd (omega arith)
all_last P (y ∷ xs) x h p zero d l = h zero d (omega arith)
all_last P (y ∷ xs) x h p (suc i) d l = all_last P xs x (λ j e m. h (suc j) e (omega arith)) p i d (omega arith)

pub all_at : {X : Type 0} (P : X → Type 0) (xs : List X) (i : ℕ) (x : X) → All P xs → slice_get xs i ≡ Some x → P x
all_at P [] i x h e = absurd (none-some x e)
all_at P (y ∷ xs) zero x h e = subst P (same_Some y x e) (h zero y (omega arith))
all_at P (y ∷ xs) (suc i) x h e = all_at P xs i x (λ j d l. h (suc j) d (omega arith)) e
