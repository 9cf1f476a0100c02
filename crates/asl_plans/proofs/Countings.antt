-- The plans that are left are filed and listed one after another.
use Rattle.std.proofs.Common.{◌≡◌, ◌≤◌, ℕ, zero, suc, ◌+◌, Bool, true, false, List, [], ◌∷◌, ◌++◌, length, take, Some, cond, refl, ap, sym, ◌∙◌, subst, arith}
use Rattle.std.specs.List.{slice_get}
use Rattle.std.proofs.lemmas.List.{append-nil, take_all}
use Rattle.asl_index_tables.specs.declared.keys.Keys.{Keys}
use Rattle.asl_index_tables.specs.Keys as keyed
use Rattle.asl_plans.specs.declared.entry.OwnedPlan.{OwnedPlan}
use Rattle.asl_plans.specs.declared.entry.Which.{Which}
use Rattle.asl_plans.specs.declared.filing.FiledPlaces.{FiledPlaces}
use Rattle.asl_plans.specs.Libraries.{lost, has_owner, dropped}
use Rattle.asl_plans.specs.FiledPlaces.{IsPut, IsIndex, IsCounted, plan_key}
use Rattle.asl_plans.proofs.Filings.{index_more}
use Rattle.asl_plans.proofs.OwnedPlans.{lost_plan, dropped_append}

one_longer : {A : Type 0} (xs : List A) (x : A) → length (xs ++ x ∷ []) ≡ suc (length xs)
one_longer [] x = refl
one_longer (y ∷ ys) x = ap suc (one_longer ys x)

-- a plan that has no owner left is none of them
pub counted_same : (w : Which) (o : ℕ) (e : OwnedPlan) (n : ℕ) (f : FiledPlaces) (keys : Keys) → has_owner (lost w o e) ≡ false
    → (lib : List OwnedPlan) → length lib ≡ n → IsIndex lib f keys → IsCounted (lib ++ dropped w o (e ∷ [])) n f keys
counted_same w o e n f keys none lib long a =
    let same : lib ++ dropped w o (e ∷ []) ≡ lib = ap (λ b. lib ++ cond b (lost w o e ∷ []) []) none ∙ append-nil lib in
    record { index = subst (λ z. IsIndex z f keys) (sym same) a; count = sym long ∙ ap length (sym same) }

-- another is one more
pub counted_more : (w : Which) (o : ℕ) (e : OwnedPlan) (n m key : ℕ) (old new : FiledPlaces) (before after : Keys) → has_owner (lost w o e) ≡ true
    → IsPut e.plan.trigger n old new → key ≡ plan_key e.plan → keyed.IsPut key n before after → m ≡ n + 1
    → (lib : List OwnedPlan) → length lib ≡ n → IsIndex lib old before → IsCounted (lib ++ dropped w o (e ∷ [])) m new after
counted_more w o e n m key old new before after some f is l next lib long a =
    let same : lib ++ dropped w o (e ∷ []) ≡ lib ++ lost w o e ∷ [] = ap (λ b. lib ++ cond b (lost w o e ∷ []) []) some in
    let plan = sym (lost_plan w o e) in
    let more = index_more lib (lost w o e) old new before after key (is ∙ ap plan_key plan) a
    (subst (λ p. IsPut p.trigger (length lib) old new) plan (subst (λ k. IsPut e.plan.trigger k old new) (sym long) f))
    (subst (λ k. keyed.IsPut key k before after) (sym long) l) in
    let step : n + 1 ≡ suc n = omega arith in
    record {
      index = subst (λ z. IsIndex z new after) (sym same) more;
      count = next ∙ step ∙ ap suc (sym long) ∙ sym (one_longer lib (lost w o e)) ∙ ap length (sym same);
    }

-- of so many at most so many are left
pub few_left : (w : Which) (o : ℕ) (all : List OwnedPlan) (k : ℕ) → length (dropped w o (take k all)) ≤ k
few_left w o [] zero = omega arith
few_left w o [] (suc k) = omega arith
few_left w o (e ∷ all) zero = omega arith
few_left w o (e ∷ all) (suc k) = go (has_owner (lost w o e)) (few_left w o all k) where
  go : (b : Bool) → length (dropped w o (take k all)) ≤ k
      → length (cond b (lost w o e ∷ dropped w o (take k all)) (dropped w o (take k all))) ≤ suc k
  go true h = omega (arith, h)
  go false h = omega (arith, h)

take_more : {A : Type 0} (xs : List A) (k : ℕ) (x : A) → slice_get xs k ≡ Some x → take k xs ++ x ∷ [] ≡ take (suc k) xs
take_more [] k x e = cc
take_more (y ∷ ys) zero x e = let is : y ≡ x = cc in ap (λ z. z ∷ []) (sym is)
take_more (y ∷ ys) (suc k) x e = ap (λ z. y ∷ z) (take_more ys k x e)

pub counted_next : (w : Which) (o : ℕ) (all : List OwnedPlan) (k m : ℕ) (e : OwnedPlan) (f : FiledPlaces) (keys : Keys) → slice_get all k ≡ Some e
    → IsCounted (dropped w o (take k all) ++ dropped w o (e ∷ [])) m f keys → IsCounted (dropped w o (take (k + 1) all)) m f keys
counted_next w o all k m e f keys at c =
    let next : suc k ≡ k + 1 = omega arith in
    let same = sym (dropped_append w o (take k all) (e ∷ [])) ∙ ap (dropped w o) (take_more all k e at ∙ ap (λ j. take j all) next) in
    subst (λ z. IsCounted z m f keys) same c

pub all_counted : (w : Which) (o : ℕ) (all : List OwnedPlan) (k n : ℕ) (f : FiledPlaces) (keys : Keys) → length all ≤ k
    → IsCounted (dropped w o (take k all)) n f keys → IsIndex (dropped w o all) f keys
all_counted w o all k n f keys long c = subst (λ z. IsIndex (dropped w o z) f keys) (take_all k all long) c.index
