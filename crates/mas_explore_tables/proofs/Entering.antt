-- A value that is put last, and an answer that is noted.
use Rattle.std.proofs.Common.{ℕ, zero, suc, ◌≡◌, ◌+◌, ◌<◌, ◌≤◌, ◌⊎◌, inl, inr, arith, List, [], ◌∷◌, ◌++◌, length, slice_get, Some, refl, sym, ◌∙◌, ap, subst}
use Rattle.std.proofs.lemmas.Option.{none-some, same_Some, slice_get_within}
use Rattle.std.proofs.Common.{length-append}
use Rattle.mas_explore_tables.specs.Tables.{IsGrown, HasEntered, Answers, Recalls, HasNoted}

pub get-left : {X : Type 0} (xs ys : List X) (i : ℕ) (x : X) → slice_get xs i ≡ Some x → slice_get (xs ++ ys) i ≡ Some x
get-left [] ys i x e = absurd (none-some x e)
get-left (z ∷ xs) ys zero x e = e
get-left (z ∷ xs) ys (suc i) x e = get-left xs ys i x e

pub get-last : {X : Type 0} (xs : List X) (x : X) → slice_get (xs ++ x ∷ []) (length xs) ≡ Some x
get-last [] x = refl
get-last (z ∷ xs) x = get-last xs x

-- what is at a place of a list with one more value
pub record IsNew {X : Type 0} (xs : List X) (x y : X) (i : ℕ) : Type 0 where
  pub place : i ≡ length xs
  pub value : y ≡ x

pub get-split : {X : Type 0} (xs : List X) (x y : X) (i : ℕ) → slice_get (xs ++ x ∷ []) i ≡ Some y → (slice_get xs i ≡ Some y) ⊎ IsNew xs x y i
get-split [] x y zero e = inr (record { place = refl; value = sym (same_Some x y e) })
get-split [] x y (suc i) e = absurd (none-some y e)
get-split (z ∷ xs) x y zero e = inl e
get-split (z ∷ xs) x y (suc i) e = on (get-split xs x y i e)
  where
    on : (slice_get xs i ≡ Some y) ⊎ IsNew xs x y i → (slice_get xs i ≡ Some y) ⊎ IsNew (z ∷ xs) x y (suc i)
    on (inl h) = inl h
    on (inr h) = inr (record { place = ap suc h.place; value = h.value })

pub entered : {X : Type 0} (old new : List X) (x : X) (n : ℕ) → n ≡ length old → new ≡ old ++ x ∷ [] → HasEntered old new x n
entered {X} old new x n e f =
    let P = λ (xs : List X). HasEntered old xs x n in
    let Q = λ (m : ℕ). slice_get (old ++ x ∷ []) m ≡ Some x in
    let here : HasEntered old (old ++ x ∷ []) x n = record { stay = λ i y g. get-left old (x ∷ []) i y g; at = subst Q (sym e) (get-last old x); grown = inr refl } in
    subst P (sym f) here

pub known : {X : Type 0} (old : List X) (x : X) (n : ℕ) → slice_get old n ≡ Some x → HasEntered old old x n
known old x n e = record { stay = λ i y g. g; at = e; grown = inl refl }
