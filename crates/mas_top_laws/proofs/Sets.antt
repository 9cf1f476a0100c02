-- What holds of each item of a list, where one is set.
use Rattle.std.proofs.Common.{◌≡◌, ◌++◌, ℕ, zero, suc, List, [], ◌∷◌, slice_get, slice_set, Some, IfSome, subst}
use Rattle.std.specs.Prelude.{replicate}
use Rattle.std.specs.List.{AllByRecursion}
use Rattle.mas_top_laws.specs.Runs.{Each}

pub set_each : {X : Type 0} (P : ℕ → X → Type 0) (xs : List X) (i : ℕ) (x : X) → Each P xs → P i x → Each P (slice_set xs i x)
set_each P [] i x a p j = a j
set_each P (y ∷ ys) zero x a p zero = p
set_each P (y ∷ ys) zero x a p (suc j) = a (suc j)
set_each P (y ∷ ys) (suc i) x a p zero = a zero
set_each P (y ∷ ys) (suc i) x a p (suc j) = set_each (λ k. P (suc k)) ys i x (λ k. a (suc k)) p j

pub each_at : {X : Type 0} (P : ℕ → X → Type 0) (xs : List X) (j : ℕ) (x : X) → Each P xs → slice_get xs j ≡ Some x → P j x
each_at P xs j x a e = subst (λ o. IfSome o (P j)) e (a j)

pub replicate_each : {X : Type 0} (P : ℕ → X → Type 0) (n : ℕ) (x : X) → ((j : ℕ) → P j x) → Each P (replicate n x)
replicate_each P zero x p j = tt
replicate_each P (suc n) x p zero = p zero
replicate_each P (suc n) x p (suc j) = replicate_each (λ k. P (suc k)) n x (λ k. p (suc k)) j

pub all_last : {A : Type 0} (P : A → Type 0) (xs : List A) (y : A) → AllByRecursion P xs → P y → AllByRecursion P (xs ++ y ∷ [])
all_last P [] y a p = (p, tt)
all_last P (x ∷ xs) y a p = (a.0, all_last P xs y a.1 p)
