-- The plans of an owner stay.
use Rattle.std.proofs.Common.{◌≡◌, ℕ, zero, suc, Bool, true, false, ◌&&◌, ◌||◌, List, [], ◌∷◌, ◌++◌, length, Some, cond, refl, ap, sym, ◌∙◌, arith}
use Rattle.std.specs.Prelude.{◌==◌, not}
use Rattle.std.specs.List.{slice_get, list_any, filter}
use Rattle.std.proofs.lemmas.Bool.{false≢true, eqb-true, eq-eqb}
use Rattle.asl_term.specs.declared.syntax.Plan.{Plan}
use Rattle.asl_plans.specs.declared.entry.OwnedPlan.{OwnedPlan}
use Rattle.asl_plans.specs.declared.entry.Which.{Which}
use Rattle.asl_plans.specs.Same.{same_plan}
use Rattle.asl_plans.specs.Libraries.{owns, is_owned, with_owner, added, all_added, is_meant, without_owner, lost, has_owner, dropped}
use Rattle.asl_plans.specs.Laws.{KeepsOwner, AddingKeeps, DroppingKeeps, SourceOwns}
use Rattle.asl_plans.proofs.SamePlans.{plan_self}
use Rattle.asl_plans.proofs.OwnedPlans.{owner_plan, lost_plan}

any_append : (f : ℕ → Bool) (xs ys : List ℕ) → list_any f xs ≡ true → list_any f (xs ++ ys) ≡ true
any_append f [] ys h = absurd (false≢true h)
any_append f (x ∷ xs) ys h = go (f x) h (any_append f xs ys) where
  go : (b : Bool) → (b || list_any f xs) ≡ true → (list_any f xs ≡ true → list_any f (xs ++ ys) ≡ true) → (b || list_any f (xs ++ ys)) ≡ true
  go true h later = refl
  go false h later = later h

any_last : (f : ℕ → Bool) (xs : List ℕ) (x : ℕ) → f x ≡ true → list_any f (xs ++ x ∷ []) ≡ true
any_last f [] x h = ap (λ b. b || false) h
any_last f (y ∷ ys) x h = go (f y) (any_last f ys x h) where
  go : (b : Bool) → list_any f (ys ++ x ∷ []) ≡ true → (b || list_any f (ys ++ x ∷ [])) ≡ true
  go true h = refl
  go false h = h

any_filter : (f g : ℕ → Bool) → ((x : ℕ) → f x ≡ true → g x ≡ true) → (xs : List ℕ) → list_any f xs ≡ true → list_any f (filter g xs) ≡ true
any_filter f g i [] h = absurd (false≢true h)
any_filter f g i (x ∷ xs) h = go (f x) refl (g x) refl h (any_filter f g i xs) where
  go : (a : Bool) → f x ≡ a → (b : Bool) → g x ≡ b → (a || list_any f xs) ≡ true → (list_any f xs ≡ true → list_any f (filter g xs) ≡ true)
      → list_any f (cond b (x ∷ filter g xs) (filter g xs)) ≡ true
  go true e true u h later = ap (λ c. c || list_any f (filter g xs)) e
  go true e false u h later = absurd (false≢true (sym u ∙ i x e))
  go false e true u h later = ap (λ c. c || list_any f (filter g xs)) e ∙ later h
  go false e false u h later = later h

any_some : (f : ℕ → Bool) (xs : List ℕ) → list_any f xs ≡ true → list_any (λ x. true) xs ≡ true
any_some f [] h = absurd (false≢true h)
any_some f (x ∷ xs) h = refl

owns_more : (o r : ℕ) (e : OwnedPlan) → owns o e ≡ true → owns o (with_owner r e) ≡ true
owns_more o r e h = go (owns r e) where
  go : (b : Bool) → owns o (cond b e (record { plan = e.plan; owners = e.owners ++ r ∷ [] })) ≡ true
  go true = h
  go false = any_append (λ x. x == o) e.owners (r ∷ []) h

owns_new : (r : ℕ) (e : OwnedPlan) → owns r (with_owner r e) ≡ true
owns_new r e = go (owns r e) refl where
  go : (b : Bool) → owns r e ≡ b → owns r (cond b e (record { plan = e.plan; owners = e.owners ++ r ∷ [] })) ≡ true
  go true u = u
  go false u = any_last (λ x. x == r) e.owners r (eq-eqb r r refl)

-- one of two
first_or : (a b c d : Bool) → (a ≡ true → c ≡ true) → (b ≡ true → d ≡ true) → (a || b) ≡ true → (c || d) ≡ true
first_or true b c d f g h = ap (λ x. x || d) (f refl)
first_or false b c d f g h = right c (g h) where
  right : (x : Bool) → d ≡ true → (x || d) ≡ true
  right true e = refl
  right false e = e

both_or : (a b c d : Bool) → (a ≡ true → c ≡ true) → (b ≡ true → d ≡ true) → (a && b) ≡ true → (c && d) ≡ true
both_or true true c d f g h = ap (λ x. x && d) (f refl) ∙ g refl
both_or true false c d f g h = absurd (false≢true h)
both_or false b c d f g h = absurd (false≢true h)

pub adding_keeps : AddingKeeps
adding_keeps q r o [] p h = absurd (false≢true h)
adding_keeps q r o (e ∷ more) p h = go (same_plan q e.plan) (adding_keeps q r o more p) where
  go : (b : Bool) → (is_owned p o more ≡ true → is_owned p o (added q r more) ≡ true)
      → is_owned p o (cond b (with_owner r e ∷ more) (e ∷ added q r more)) ≡ true
  go true later = first_or (same_plan p e.plan && owns o e) (is_owned p o more)
      (same_plan p (with_owner r e).plan && owns o (with_owner r e)) (is_owned p o more)
      (both_or (same_plan p e.plan) (owns o e) (same_plan p (with_owner r e).plan) (owns o (with_owner r e))
      (λ s. ap (same_plan p) (owner_plan r e) ∙ s) (owns_more o r e))
      (λ x. x) h
  go false later = first_or (same_plan p e.plan && owns o e) (is_owned p o more)
      (same_plan p e.plan && owns o e) (is_owned p o (added q r more)) (λ x. x) later h

other_owner : (o r : ℕ) → (o ≡ r → ⊥) → (x : ℕ) → (x == o) ≡ true → not (x == r) ≡ true
other_owner o r h x e = go (x == r) refl where
  go : (b : Bool) → (x == r) ≡ b → not b ≡ true
  go true u = absurd (h (sym (eqb-true x o e) ∙ eqb-true x r u))
  go false u = refl

owns_lost : (w : Which) (o r : ℕ) → (o ≡ r → ⊥) → (e : OwnedPlan) → owns o e ≡ true → owns o (lost w r e) ≡ true
owns_lost w o r h e is = go (is_meant w e.plan) where
  go : (b : Bool) → owns o (cond b (record { plan = e.plan; owners = filter (λ x. not (x == r)) e.owners }) e) ≡ true
  go true = any_filter (λ x. x == o) (λ x. not (x == r)) (other_owner o r h) e.owners is
  go false = is

right_true : (x y : Bool) → (x && y) ≡ true → y ≡ true
right_true true y z = z
right_true false y z = absurd (false≢true z)

pub dropping_keeps : DroppingKeeps
dropping_keeps w r o [] h p is = absurd (false≢true is)
dropping_keeps w r o (e ∷ more) h p is = go (same_plan p e.plan && owns o e) refl (has_owner (lost w r e)) refl is (dropping_keeps w r o more h p) where
  go : (a : Bool) → (same_plan p e.plan && owns o e) ≡ a → (b : Bool) → has_owner (lost w r e) ≡ b → (a || is_owned p o more) ≡ true
      → (is_owned p o more ≡ true → is_owned p o (dropped w r more) ≡ true)
      → is_owned p o (cond b (lost w r e ∷ dropped w r more) (dropped w r more)) ≡ true
  go true s true u i later =
      let kept : (same_plan p (lost w r e).plan && owns o (lost w r e)) ≡ true =
      both_or (same_plan p e.plan) (owns o e) (same_plan p (lost w r e).plan) (owns o (lost w r e))
      (λ x. ap (same_plan p) (lost_plan w r e) ∙ x) (owns_lost w o r h e) s in
      ap (λ x. x || is_owned p o (dropped w r more)) kept
  go true s false u i later =
      absurd (false≢true (sym u ∙ any_some (λ x. x == o) (lost w r e).owners (owns_lost w o r h e (right_true (same_plan p e.plan) (owns o e) s))))
  go false s true u i later = first_or false (is_owned p o more) (same_plan p (lost w r e).plan && owns o (lost w r e)) (is_owned p o (dropped w r more))
      (λ x. absurd (false≢true x)) later i
  go false s false u i later = later i

-- what was added is from whom it was added
added_owned : (p : Plan) (r : ℕ) (lib : List OwnedPlan) → is_owned p r (added p r lib) ≡ true
added_owned p r [] = both (same_plan p p) (r == r) (plan_self p) (owns_new r (record { plan = p; owners = [] })) where
  both : (a b : Bool) → a ≡ true → (b || false) ≡ true → ((a && (b || false)) || false) ≡ true
  both a b x y = ap (λ z. (z && (b || false)) || false) x ∙ ap (λ z. z || false) y
added_owned p r (e ∷ more) = go (same_plan p e.plan) refl (added_owned p r more) where
  go : (b : Bool) → same_plan p e.plan ≡ b → is_owned p r (added p r more) ≡ true → is_owned p r (cond b (with_owner r e ∷ more) (e ∷ added p r more)) ≡ true
  go true s later =
      ap (λ x. (x && owns r (with_owner r e)) || is_owned p r more) (ap (same_plan p) (owner_plan r e) ∙ s)
      ∙ ap (λ x. x || is_owned p r more) (owns_new r e)
  go false s later = ap (λ x. (x && owns r e) || is_owned p r (added p r more)) s ∙ later

all_keep : (plans : List Plan) (r o : ℕ) (lib : List OwnedPlan) → KeepsOwner o lib (all_added plans r lib)
all_keep [] r o lib p h = h
all_keep (q ∷ more) r o lib p h = all_keep more r o (added q r lib) p (adding_keeps q r o lib p h)

from_any : (plans : List Plan) (r : ℕ) (lib : List OwnedPlan) (k : ℕ) (p : Plan) → slice_get plans k ≡ Some p → is_owned p r (all_added plans r lib) ≡ true
from_any [] r lib k p e = cc
from_any (q ∷ more) r lib zero p e =
    let is : q ≡ p = cc in all_keep more r r (added q r lib) p (ap (λ x. is_owned x r (added q r lib)) (sym is) ∙ added_owned q r lib)
from_any (q ∷ more) r lib (suc k) p e = from_any more r (added q r lib) k p e

pub source_owns : SourceOwns
source_owns plans k p e = from_any plans 0 [] k p e

-- ---- whether an owner is left

pub any_owner : (xs : List ℕ) → not (length xs == 0) ≡ list_any (λ x. true) xs
any_owner [] = refl
any_owner (x ∷ xs) = go (suc (length xs) == 0) refl where
  go : (b : Bool) → (suc (length xs) == 0) ≡ b → not b ≡ true
  go true e = let same = eqb-true (suc (length xs)) 0 e in absurd (omega (arith, same))
  go false e = refl

another : (f : ℕ → Bool) (xs : List ℕ) → list_any f xs ≡ list_any (λ x. true) (filter f xs)
another f [] = refl
another f (x ∷ xs) = go (f x) (another f xs) where
  go : (b : Bool) → list_any f xs ≡ list_any (λ x. true) (filter f xs) → (b || list_any f xs) ≡ list_any (λ x. true) (cond b (x ∷ filter f xs) (filter f xs))
  go true later = refl
  go false later = later

-- what is meant has an owner left exactly where it has another one
pub kept_lost : (w : Which) (o : ℕ) (e : OwnedPlan) → is_meant w e.plan ≡ true → list_any (λ x. not (x == o)) e.owners ≡ has_owner (lost w o e)
kept_lost w o e h = another (λ x. not (x == o)) e.owners ∙ sym (ap (λ b. has_owner (cond b (without_owner o e) e)) h)
