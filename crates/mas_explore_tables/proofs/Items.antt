-- Lists that have the same at each place.
use Rattle.std.proofs.Common.{ℕ, zero, suc, ◌≡◌, ◌<◌, arith, List, [], ◌∷◌, length, slice_get, Some, refl}
use Rattle.std.proofs.lemmas.Option.{same_Some}

pub same_list : {X : Type 0} (xs ys : List X) → length xs ≡ length ys → ((k : ℕ) → k < length xs → slice_get xs k ≡ slice_get ys k) → xs ≡ ys
same_list [] [] n h = refl
same_list [] (y ∷ ys) n h = absurd (omega arith)
same_list (x ∷ xs) [] n h = absurd (omega arith)
same_list (x ∷ xs) (y ∷ ys) n h =
    let e : x ≡ y = same_Some x y (h 0 (omega arith)) in
    let f : xs ≡ ys = same_list xs ys (omega arith) (λ k l. h (suc k) (omega arith)) in
    λ i. e i ∷ f i
