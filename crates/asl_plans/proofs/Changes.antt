-- One more owner of a plan that is there, and one more plan.
use Rattle.std.proofs.Common.{◌≡◌, ◌<◌, ℕ, zero, suc, ◌-◌, Bool, true, false, List, [], ◌∷◌, ◌++◌, length, take, Option, Some, None, refl, ap, sym, ◌∙◌, subst, arith}
use Rattle.std.specs.Prelude.{Result, Ok, Err, OnOk, OnErr, IfOk, not}
use Rattle.std.specs.List.{slice_get, slice_set}
use Rattle.asl_term.specs.declared.syntax.Plan.{Plan}
use Rattle.asl_index_tables.specs.declared.keys.Keys.{Keys}
use Rattle.asl_plans.specs.declared.entry.OwnedPlan.{OwnedPlan}
use Rattle.asl_plans.specs.declared.filing.FiledPlaces.{FiledPlaces}
use Rattle.asl_plans.specs.Libraries.{has_plan, owns, is_owned, with_owner, entry, added, AreEntries}
use Rattle.asl_plans.specs.FiledPlaces.{IsIndex, IsFound}
use Rattle.asl_plans.proofs.Filings.{index_set}
use Rattle.asl_plans.proofs.OwnedPlans.{added_new, not_owned, added_there, owned_there, owner_plan, entries_added}

-- ---- of an entry at a place

pub own_new : {E : Type 0} (r : Result Bool E) (o k : ℕ) (lib : List OwnedPlan) (d : OwnedPlan) → slice_get lib k ≡ Some d → IfOk r (λ new. new ≡ not (owns o d))
    → IfOk r (λ new. (e : OwnedPlan) → slice_get lib k ≡ Some e → new ≡ not (owns o e))
own_new (Ok new) o k lib d at h = λ e is. let both : Some d ≡ Some e = sym at ∙ is in let same : d ≡ e = cc in h ∙ ap (λ z. not (owns o z)) same
own_new (Err x) o k lib d at h = tt

pub own_ok : {T E : Type 0} (r : Result T E) (o k : ℕ) (lib new : List OwnedPlan) (d x : OwnedPlan) → slice_get lib k ≡ Some d → new ≡ slice_set lib k x
    → OnOk r (x ≡ with_owner o d) → OnOk r ((e : OwnedPlan) → slice_get lib k ≡ Some e → new ≡ slice_set lib k (with_owner o e))
own_ok (Ok v) o k lib new d x at is h =
    λ e here. let both : Some d ≡ Some e = sym at ∙ here in let same : d ≡ e = cc in is ∙ ap (slice_set lib k) (h ∙ ap (with_owner o) same)
own_ok (Err v) o k lib new d x at is h = tt

set_here : {A : Type 0} (xs : List A) (k : ℕ) (x : A) → slice_get xs k ≡ Some x → slice_set xs k x ≡ xs
set_here [] k x e = cc
set_here (y ∷ ys) zero x e = let is : y ≡ x = cc in ap (λ z. z ∷ ys) (sym is)
set_here (y ∷ ys) (suc k) x e = ap (λ z. y ∷ z) (set_here ys k x e)

pub own_err : {T E : Type 0} (r : Result T E) (k : ℕ) (lib new : List OwnedPlan) (d x : OwnedPlan) → slice_get lib k ≡ Some d → new ≡ slice_set lib k x
    → OnErr r (x ≡ d) → OnErr r (new ≡ lib)
own_err (Ok v) k lib new d x at is h = tt
own_err (Err v) k lib new d x at is h = is ∙ ap (slice_set lib k) h ∙ set_here lib k d at

-- ---- a plan that was found

within : {A : Type 0} (xs : List A) (k : ℕ) (x : A) → slice_get xs k ≡ Some x → k < length xs
within [] k x e = cc
within (y ∷ ys) zero x e = omega arith
within (y ∷ ys) (suc k) x e = let more = within ys k x e in omega (arith, more)

-- what was found in a copy of the list
pub found_is : (p : Plan) (lib now : List OwnedPlan) (o : Option ℕ) (k : ℕ) → now ≡ lib → o ≡ Some k → IsFound p now o → IsFound p lib (Some k)
found_is p lib now o k same is f = subst (λ z. IsFound p z (Some k)) same (subst (IsFound p now) is f)

pub none_is : (p : Plan) (lib now : List OwnedPlan) (o : Option ℕ) → now ≡ lib → o ≡ None → IsFound p now o → has_plan p lib ≡ false
none_is p lib now o same is f = subst (λ z. IsFound p z None) same (subst (IsFound p now) is f)

pub found_within : (p : Plan) (lib : List OwnedPlan) (k : ℕ) → IsFound p lib (Some k) → k < length lib
found_within p lib k f = within lib k f.0 f.1

module _ (p : Plan) (o : ℕ) (lib : List OwnedPlan) (k : ℕ) (a : AreEntries lib) (f : IsFound p lib (Some k)) where
  pub found_new : {E : Type 0} (r : Result Bool E) → IfOk r (λ new. (e : OwnedPlan) → slice_get lib k ≡ Some e → new ≡ not (owns o e))
      → IfOk r (λ new. new ≡ not (is_owned p o lib))
  found_new (Ok new) h = h f.0 f.1 ∙ ap not (sym (owned_there p o lib k f.0 a.distinct f.1 f.2))
  found_new (Err x) h = tt

  pub found_ok : {T E : Type 0} (r : Result T E) (new : List OwnedPlan)
      → OnOk r ((e : OwnedPlan) → slice_get lib k ≡ Some e → new ≡ slice_set lib k (with_owner o e)) → OnOk r (new ≡ added p o lib)
  found_ok (Ok v) new h = h f.0 f.1 ∙ sym (added_there p o lib k f.0 a.distinct f.1 f.2)
  found_ok (Err v) new h = tt

  pub found_index : {T E : Type 0} (r : Result T E) (new : List OwnedPlan) (filed : FiledPlaces) (keys : Keys) → IsIndex lib filed keys
      → OnOk r ((e : OwnedPlan) → slice_get lib k ≡ Some e → new ≡ slice_set lib k (with_owner o e)) → OnErr r (new ≡ lib) → IsIndex new filed keys
  found_index (Ok v) new filed keys i h g =
      subst (λ z. IsIndex z filed keys) (sym (h f.0 f.1)) (index_set lib k f.0 (with_owner o f.0) filed keys f.1 (owner_plan o f.0) i)
  found_index (Err v) new filed keys i h g = subst (λ z. IsIndex z filed keys) (sym g) i

  pub found_sound : {T E : Type 0} (r : Result T E) (new : List OwnedPlan)
      → OnOk r ((e : OwnedPlan) → slice_get lib k ≡ Some e → new ≡ slice_set lib k (with_owner o e)) → OnErr r (new ≡ lib) → AreEntries new
  found_sound (Ok v) new h g = subst AreEntries (sym (h f.0 f.1 ∙ sym (added_there p o lib k f.0 a.distinct f.1 f.2))) (entries_added p o lib a)
  found_sound (Err v) new h g = subst AreEntries (sym g) a

-- ---- a plan that is new

module _ (p : Plan) (o : ℕ) (lib : List OwnedPlan) (none : has_plan p lib ≡ false) where
  pub new_new : true ≡ not (is_owned p o lib)
  new_new = ap not (sym (not_owned p o lib none))

  pub new_ok : (new : List OwnedPlan) → new ≡ lib ++ entry p o ∷ [] → new ≡ added p o lib
  new_ok new e = e ∙ sym (added_new p o lib none)

  pub new_sound : (new : List OwnedPlan) → AreEntries lib → new ≡ lib ++ entry p o ∷ [] → AreEntries new
  new_sound new a e = subst AreEntries (sym (new_ok new e)) (entries_added p o lib a)

-- ---- the last is taken out again

one_longer : {A : Type 0} (xs : List A) (x : A) → length (xs ++ x ∷ []) ≡ suc (length xs)
one_longer [] x = refl
one_longer (y ∷ ys) x = ap suc (one_longer ys x)

taken : {A : Type 0} (xs : List A) (x : A) → take (length xs) (xs ++ x ∷ []) ≡ xs
taken [] x = refl
taken (y ∷ ys) x = ap (λ z. y ∷ z) (taken ys x)

front_of : {A : Type 0} (xs : List A) (x : A) → take (length (xs ++ x ∷ []) - 1) (xs ++ x ∷ []) ≡ xs
front_of xs x =
    let one = one_longer xs x in
    let n : length (xs ++ x ∷ []) - 1 ≡ length xs = omega (arith, one) in
    ap (λ n. take n (xs ++ x ∷ [])) n ∙ taken xs x

-- a list that one more was put behind, without it
pub without_last : {A : Type 0} (xs now : List A) (x : A) → now ≡ xs ++ x ∷ [] → take (length now - 1) now ≡ xs
without_last xs now x e = ap (λ z. take (length z - 1) z) e ∙ front_of xs x

pub longer : {A : Type 0} (xs now : List A) (x : A) → now ≡ xs ++ x ∷ [] → 0 < length now
longer xs now x e =
    let one = one_longer xs x in
    let n : length now ≡ suc (length xs) = ap length e ∙ one in
    omega (arith, n)
