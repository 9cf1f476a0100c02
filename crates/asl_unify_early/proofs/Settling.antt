-- Arguments that settle to the same as what a substitution makes of those of a goal.
use Rattle.std.proofs.Common.{◌≡◌, ℕ, ℤ, ◌+◌, ◌<◌, zero, suc, List, [], ◌∷◌, ◌++◌, map, take, length, get_or, Some, refl, sym, ap, ◌∙◌, add-one}
use Rattle.std.proofs.lemmas.Option.{slice_get_read}
use Rattle.std.specs.Prelude.{Ok}
use Rattle.std.specs.List.{slice_get}
use Rattle.asl_term.specs.declared.syntax.Term.{Term}
use Rattle.asl_term.specs.declared.syntax.Term.TheVariants as term
use Rattle.asl_term.proofs.Terms.{fold_num}
use Rattle.asl_unify.specs.declared.subst.Pair.{Pair}
use Rattle.asl_unify.specs.Puts.{apply}
use Rattle.asl_unify.specs.Settling.{Settled, settle, settle_step}

pub num_settles : (n : ℤ) → settle (term.Num n) ≡ Ok (term.Num n)
num_settles n = fold_num (Settled Term) settle_step n

-- a number stands for what settles to it
pub for_number : (t : Term) (m n : ℤ) → n ≡ m → settle t ≡ Ok (term.Num n) → settle (term.Num m) ≡ settle t
for_number t m n e f = num_settles m ∙ sym (ap (λ z. Ok (term.Num z)) e) ∙ sym f

map_last : {A B : Type 0} → (f : A → B) (xs : List A) (x : A) → map f (xs ++ x ∷ []) ≡ map f xs ++ f x ∷ []
map_last f [] x = refl
map_last f (y ∷ xs) x = ap (λ z. f y ∷ z) (map_last f xs x)

take_last : (ts : List Term) (i : ℕ) (t : Term) → slice_get ts i ≡ Some t → take (suc i) ts ≡ take i ts ++ t ∷ []
take_last [] i t e = cc
take_last (u ∷ ts) zero t e = let same : u ≡ t = cc in ap (λ z. z ∷ []) same
take_last (u ∷ ts) (suc i) t e = ap (λ z. u ∷ z) (take_last ts i t e)

-- one more argument
pub settled_more : (s : List Pair) (r ts : List Term) (i : ℕ) (x t : Term) → map settle r ≡ map settle (map (apply s) (take i ts)) → slice_get ts i ≡ Some t
    → settle x ≡ settle (apply s t) → map settle (r ++ x ∷ []) ≡ map settle (map (apply s) (take (suc i) ts))
settled_more s r ts i x t h g e =
    map_last settle r x
    ∙ ap (λ z. z ++ settle x ∷ []) h
    ∙ ap (λ z. map settle (map (apply s) (take i ts)) ++ z ∷ []) e
    ∙ sym (ap (λ z. map settle (map (apply s) z)) (take_last ts i t g) ∙ ap (map settle) (map_last (apply s) (take i ts) t) ∙ map_last settle (map (apply s) (take i ts)) (apply s t))

pub one_settled : (s : List Pair) (ts r new : List Term) (i : ℕ) (x t : Term) → map settle r ≡ map settle (map (apply s) (take i ts)) → i < length ts → t ≡ get_or ts i t
    → settle x ≡ settle (apply s t) → new ≡ r ++ x ∷ [] → map settle new ≡ map settle (map (apply s) (take (i + 1) ts))
one_settled s ts r new i x t h lt is e n =
    let g = slice_get_read ts (length ts) i t refl lt is in
    rw add-one (ap (map settle) n ∙ settled_more s r ts i x t h g e)
