-- What stands at a place of a list after a change at a place.
use Rattle.std.proofs.Common.{ℕ, zero, suc, ◌≡◌, ◌<◌, arith, false, nat_eq, List, [], ◌∷◌, length, replicate, slice_get, slice_set, Some, refl}
use Rattle.std.proofs.lemmas.Bool.{ne_eqb, eqb-false}

less : (i j : ℕ) → nat_eq (suc i) (suc j) ≡ false → nat_eq i j ≡ false
less i j e = ne_eqb i j (λ q. eqb-false (suc i) (suc j) e (omega arith))

-- another place stays
pub set_other : {X : Type 0} (xs : List X) (i j : ℕ) (x : X) → nat_eq i j ≡ false → slice_get (slice_set xs i x) j ≡ slice_get xs j
set_other [] i j x e = refl
set_other (y ∷ xs) zero zero x e = cc
set_other (y ∷ xs) zero (suc j) x e = refl
set_other (y ∷ xs) (suc i) zero x e = refl
set_other (y ∷ xs) (suc i) (suc j) x e = set_other xs i j x (less i j e)

-- the place has it
pub set_here : {X : Type 0} (xs : List X) (i : ℕ) (x : X) → i < length xs → slice_get (slice_set xs i x) i ≡ Some x
set_here [] i x l = absurd (omega arith)
set_here (y ∷ xs) zero x l = refl
set_here (y ∷ xs) (suc i) x l = set_here xs i x (omega arith)

-- what is at a place is within
pub is_within : {X : Type 0} (xs : List X) (i : ℕ) (x : X) → slice_get xs i ≡ Some x → i < length xs
is_within [] i x e = cc
is_within (y ∷ xs) zero x e = omega arith
is_within (y ∷ xs) (suc i) x e = let h = is_within xs i x e in omega arith

-- at each place of equal items
pub in_replicate : {X : Type 0} (n i : ℕ) (x : X) → i < n → slice_get (replicate n x) i ≡ Some x
in_replicate zero i x l = absurd (omega arith)
in_replicate (suc n) zero x l = refl
in_replicate (suc n) (suc i) x l = in_replicate n i x (omega arith)
