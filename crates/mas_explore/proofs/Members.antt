-- What is one of a list.
use Rattle.std.proofs.Common.{ℕ, zero, suc, ◌≡◌, ◌<◌, ◌⊎◌, inl, inr, arith, List, [], ◌∷◌, ◌++◌, length, slice_get, slice_index_or, All, Some, refl, sym, subst}
use Rattle.std.proofs.lemmas.Option.{same_Some, none-some}
use Rattle.mas_free.specs.Covers.{IsMember}

get-left : {X : Type 0} (xs ys : List X) (i : ℕ) (x : X) → slice_get xs i ≡ Some x → slice_get (xs ++ ys) i ≡ Some x
get-left [] ys i x e = absurd (none-some x e)
get-left (z ∷ xs) ys zero x e = e
get-left (z ∷ xs) ys (suc i) x e = get-left xs ys i x e

get-last : {X : Type 0} (xs : List X) (x : X) → slice_get (xs ++ x ∷ []) (length xs) ≡ Some x
get-last [] x = refl
get-last (z ∷ xs) x = get-last xs x

get-split : {X : Type 0} (xs : List X) (x y : X) (i : ℕ) → slice_get (xs ++ x ∷ []) i ≡ Some y → (slice_get xs i ≡ Some y) ⊎ (x ≡ y)
get-split [] x y zero e = inr (same_Some x y e)
get-split [] x y (suc i) e = absurd (none-some y e)
get-split (z ∷ xs) x y zero e = inl e
get-split (z ∷ xs) x y (suc i) e = get-split xs x y i e

pub member_left : {X : Type 0} (x : X) (xs ys : List X) → IsMember x xs → IsMember x (xs ++ ys)
member_left x xs ys m = record { place = m.place; at = get-left xs ys m.place x m.at }

pub member_last : {X : Type 0} (x : X) (xs : List X) → IsMember x (xs ++ x ∷ [])
member_last x xs = record { place = length xs; at = get-last xs x }

pub member_split : {X : Type 0} (x y : X) (xs : List X) → IsMember y (xs ++ x ∷ []) → IsMember y xs ⊎ (x ≡ y)
member_split {X} x y xs m = split-by x y xs m.place (get-split xs x y m.place m.at)
  where
    split-by : (x y : X) (xs : List X) (i : ℕ) → (slice_get xs i ≡ Some y) ⊎ (x ≡ y) → IsMember y xs ⊎ (x ≡ y)
    split-by x y xs i (inl e) = inl (record { place = i; at = e })
    split-by x y xs i (inr e) = inr e

pub item_at : {X : Type 0} (xs : List X) (i : ℕ) → i < length xs → (x : X) × (slice_get xs i ≡ Some x)
item_at [] i l = absurd (omega arith)
item_at (x ∷ xs) zero l = (x, refl)
item_at (x ∷ xs) (suc i) l = item_at xs i (omega arith)

pub index_at : {X : Type 0} (xs : List X) (i : ℕ) (d : X) → i < length xs → slice_get xs i ≡ Some (slice_index_or xs i d)
index_at [] i d l = absurd (omega arith)
index_at (x ∷ xs) zero d l = refl
index_at (x ∷ xs) (suc i) d l = index_at xs i d (omega arith)

-- what holds of each member holds of all
pub all_below : (xs ys : List ℕ) (n : ℕ) → ys ≡ xs → ((x : ℕ) → IsMember x xs → x < n) → All (λ (x : ℕ). x < n) ys
all_below xs ys n e h =
    let P = λ (zs : List ℕ). All (λ (x : ℕ). x < n) zs in
    let here : All (λ (x : ℕ). x < n) xs = λ i d l. h (slice_index_or xs i d) (record { place = i; at = index_at xs i d l }) in
    subst P (sym e) here
