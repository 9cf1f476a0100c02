-- What is filed and listed of plans, and what a change of the plans makes of it.
use Rattle.std.proofs.Common.{◌≡◌, ◌<◌, ◌≤◌, ℕ, zero, suc, ◌+◌, ◌||◌, Bool, true, false, List, [], ◌∷◌, ◌++◌, map, length, take, Option, Some, None, cond, refl, ap, sym, ◌∙◌, subst, arith}
use Rattle.std.specs.Prelude.{◌==◌}
use Rattle.std.specs.List.{slice_get, slice_set, list_any}
use Rattle.std.proofs.lemmas.Bool.{false≢true, true≢false, eqb-true, eq-eqb}
use Rattle.std.proofs.lemmas.List.{take_all}
use Rattle.asl_term.specs.declared.syntax.Plan.{Plan}
use Rattle.asl_index_tables.specs.declared.keys.Keys.{Keys}
use Rattle.asl_index_tables.specs.Frames.{without}
use Rattle.asl_index_tables.specs.Keys.{listed}
use Rattle.asl_index_tables.specs.Keys as keyed
use Rattle.asl_index_tables.specs.Slots.{places}
use Rattle.asl_plans.specs.declared.entry.OwnedPlan.{OwnedPlan}
use Rattle.asl_plans.specs.declared.filing.FiledPlaces.{FiledPlaces}
use Rattle.asl_plans.specs.Same.{same_plan}
use Rattle.asl_plans.specs.Libraries.{has_plan}
use Rattle.asl_plans.specs.FiledPlaces.{has_trigger, IsPut, IsTaken, AreFiled, AreListed, IsIndex, plan_key, is_plan, IsFound}
use Rattle.asl_plans.proofs.SamePlans.{plan_true}

-- ---- places in a list without empty slots

differs : (m n : ℕ) → n < m → (m == n) ≡ false
differs m n h = go (m == n) refl where
  go : (b : Bool) → (m == n) ≡ b → b ≡ false
  go true e = let same = eqb-true m n e in absurd (omega (arith, same, h))
  go false e = refl

module _ {A : Type 0} (test : A → Bool) where
  pub places_append : (n : ℕ) (xs : List A) (x : A)
      → places test n (map Some (xs ++ x ∷ [])) ≡ cond (test x) (places test n (map Some xs) ++ (n + length xs) ∷ []) (places test n (map Some xs))
  places_append n [] x = let same : n ≡ n + 0 = omega arith in ap (λ m. cond (test x) (m ∷ []) []) same
  places_append n (y ∷ ys) x =
      go (places test (suc n) (map Some ys)) (places test (suc n) (map Some (ys ++ x ∷ []))) (test y) (test x) (places_append (suc n) ys x)
    where
      go : (rest more : List ℕ) (b c : Bool) → more ≡ cond c (rest ++ (suc n + length ys) ∷ []) rest
          → cond b (n ∷ more) more ≡ cond c (cond b (n ∷ rest) rest ++ (n + suc (length ys)) ∷ []) (cond b (n ∷ rest) rest)
      go rest more true true e =
          let same : suc n + length ys ≡ n + suc (length ys) = omega arith in ap (λ z. n ∷ z) e ∙ ap (λ m. n ∷ (rest ++ m ∷ [])) same
      go rest more true false e = ap (λ z. n ∷ z) e
      go rest more false true e = let same : suc n + length ys ≡ n + suc (length ys) = omega arith in e ∙ ap (λ m. rest ++ m ∷ []) same
      go rest more false false e = e

  -- the same from the first place on
  pub places_last : (xs : List A) (x : A)
      → places test 0 (map Some (xs ++ x ∷ [])) ≡ cond (test x) (places test 0 (map Some xs) ++ length xs ∷ []) (places test 0 (map Some xs))
  places_last xs x =
      let same : 0 + length xs ≡ length xs = omega arith in
      places_append 0 xs x ∙ ap (λ m. cond (test x) (places test 0 (map Some xs) ++ m ∷ []) (places test 0 (map Some xs))) same

  -- a place behind them that was put last is taken out again
  pub without_last : (p n : ℕ) (xs : List A) → n + length xs ≤ p → without p (places test n (map Some xs) ++ p ∷ []) ≡ places test n (map Some xs)
  without_last p n [] h = ap (λ b. cond b [] (p ∷ [])) (eq-eqb p p refl)
  without_last p n (x ∷ xs) h = go (places test (suc n) (map Some xs)) (test x) (omega (arith, h)) (without_last p (suc n) xs (omega (arith, h))) where
    go : (rest : List ℕ) (b : Bool) → n < p → without p (rest ++ p ∷ []) ≡ rest → without p (cond b (n ∷ rest) rest ++ p ∷ []) ≡ cond b (n ∷ rest) rest
    go rest true l e = ap (λ b. cond b (rest ++ p ∷ []) (n ∷ without p (rest ++ p ∷ []))) (differs p n l) ∙ ap (λ z. n ∷ z) e
    go rest false l e = e

  -- what takes the place of something of the same kind is found there too
  pub places_set : (n : ℕ) (xs : List A) (k : ℕ) (x y : A) → slice_get xs k ≡ Some x → test y ≡ test x
      → places test n (map Some (slice_set xs k y)) ≡ places test n (map Some xs)
  places_set n [] k x y e t = cc
  places_set n (z ∷ zs) zero x y e t =
      let is : z ≡ x = cc in
      ap (λ b. cond b (n ∷ places test (suc n) (map Some zs)) (places test (suc n) (map Some zs))) (t ∙ ap test (sym is))
  places_set n (z ∷ zs) (suc k) x y e t = ap (λ more. cond (test z) (n ∷ more) more) (places_set (suc n) zs k x y e t)

-- ---- one more plan

module _ (lib : List OwnedPlan) (e : OwnedPlan) where
  pub filed_more : (old new : FiledPlaces) → AreFiled lib old → IsPut e.plan.trigger (length lib) old new → AreFiled (lib ++ e ∷ []) new
  filed_more old new a put add k neg functor count =
      let test : OwnedPlan → Bool = λ d. has_trigger add k neg functor count d.plan.trigger in
      put add k neg functor count
      ∙ ap (λ z. cond (test e) (z ++ length lib ∷ []) z) (a add k neg functor count)
      ∙ sym (places_last test lib e)

  pub listed_more : (old new : Keys) (key : ℕ) → key ≡ plan_key e.plan → AreListed lib old → keyed.IsPut key (length lib) old new
      → AreListed (lib ++ e ∷ []) new
  listed_more old new key is a put n =
      let test : OwnedPlan → Bool = λ d. n == plan_key d.plan in
      put n
      ∙ ap (λ z. cond (n == key) (z ++ length lib ∷ []) z) (a n)
      ∙ ap (λ z. cond (n == z) (places test 0 (map Some lib) ++ length lib ∷ []) (places test 0 (map Some lib))) is
      ∙ sym (places_last test lib e)

  -- and taken out again
  pub filed_undone : (old mid new : FiledPlaces) → AreFiled lib old → IsPut e.plan.trigger (length lib) old mid → IsTaken e.plan.trigger (length lib) mid new
      → AreFiled lib new
  filed_undone old mid new a put take_it add k neg functor count =
      let test : OwnedPlan → Bool = λ d. has_trigger add k neg functor count d.plan.trigger in
      let here = places test 0 (map Some lib) in
      take_it add k neg functor count
      ∙ ap (λ z. cond (test e) (without (length lib) z) z)
      (put add k neg functor count ∙ ap (λ z. cond (test e) (z ++ length lib ∷ []) z) (a add k neg functor count))
      ∙ go (test e) (without_last test (length lib) 0 lib (omega arith))
    where
      go : (b : Bool) {xs : List ℕ} → without (length lib) (xs ++ length lib ∷ []) ≡ xs
          → cond b (without (length lib) (cond b (xs ++ length lib ∷ []) xs)) (cond b (xs ++ length lib ∷ []) xs) ≡ xs
      go true h = h
      go false h = refl

pub listed_same : (lib : List OwnedPlan) (old new : Keys) → AreListed lib old → keyed.IsSame old new → AreListed lib new
listed_same lib old new a same n = same n ∙ a n

pub index_more : (lib : List OwnedPlan) (e : OwnedPlan) (old new : FiledPlaces) (before after : Keys) (key : ℕ) → key ≡ plan_key e.plan
    → IsIndex lib old before → IsPut e.plan.trigger (length lib) old new → keyed.IsPut key (length lib) before after → IsIndex (lib ++ e ∷ []) new after
index_more lib e old new before after key is a f l = record {
  filed = filed_more lib e old new a.filed f;
  listed = listed_more lib e before after key is a.listed l;
}

-- the same plan with other owners
pub index_set : (lib : List OwnedPlan) (k : ℕ) (d e : OwnedPlan) (f : FiledPlaces) (keys : Keys) → slice_get lib k ≡ Some d → e.plan ≡ d.plan → IsIndex lib f keys
    → IsIndex (slice_set lib k e) f keys
index_set lib k d e f keys at is a = record {
  filed = λ add kind neg functor count.
      a.filed add kind neg functor count
      ∙ sym (places_set (λ x. has_trigger add kind neg functor count x.plan.trigger) 0 lib k d e at
      (ap (λ p. has_trigger add kind neg functor count p.trigger) is));
  listed = λ n. a.listed n ∙ sym (places_set (λ x. n == plan_key x.plan) 0 lib k d e at (ap (λ p. n == plan_key p) is));
}

-- a list and its last
pub last_split : {A : Type 0} (xs : List A) (x : A) (k : ℕ) → length xs ≡ suc k → slice_get xs k ≡ Some x → take k xs ++ x ∷ [] ≡ xs
last_split [] x k h e = absurd (omega (arith, h))
last_split (y ∷ []) x zero h e = let is : y ≡ x = cc in ap (λ z. z ∷ []) (sym is)
last_split (y ∷ []) x (suc k) h e = absurd (omega (arith, h))
last_split (y ∷ z ∷ zs) x zero h e = absurd (omega (arith, h))
last_split (y ∷ z ∷ zs) x (suc k) h e = ap (λ more. y ∷ more) (last_split (z ∷ zs) x k (omega (arith, h)) e)

pub length_front : {A : Type 0} (xs : List A) (k : ℕ) → length xs ≡ suc k → length (take k xs) ≡ k
length_front xs zero h = refl
length_front [] (suc k) h = absurd (omega (arith, h))
length_front (x ∷ xs) (suc k) h = ap suc (length_front xs k (omega (arith, h)))

-- ---- what is found

-- a place where the plan is
pub found_at : (p : Plan) (lib : List OwnedPlan) (k : ℕ) → is_plan p (slice_get lib k) ≡ true → IsFound p lib (Some k)
found_at p lib k h = go (slice_get lib k) refl h where
  go : (o : Option OwnedPlan) → slice_get lib k ≡ o → is_plan p o ≡ true → IsFound p lib (Some k)
  go None e h = absurd (false≢true h)
  go (Some d) e h = (d, e, h)

same_key : (p q : Plan) (n : ℕ) → n ≡ plan_key p → same_plan p q ≡ true → (n == plan_key q) ≡ true
same_key p q n e s = eq-eqb n (plan_key q) (e ∙ ap plan_key (plan_true p q s))

-- where none of the places has the plan, it is not there
right_false : (a b : Bool) → (a || b) ≡ false → b ≡ false
right_false true b e = cc
right_false false b e = e

none_from : (p : Plan) (key : ℕ) → key ≡ plan_key p → (at : ℕ → Bool) (n : ℕ) (lib : List OwnedPlan)
    → ((j : ℕ) (e : OwnedPlan) → slice_get lib j ≡ Some e → at (n + j) ≡ same_plan p e.plan)
    → list_any at (places (λ e. key == plan_key e.plan) n (map Some lib)) ≡ false → has_plan p lib ≡ false
none_from p key is at n [] h none = refl
none_from p key is at n (e ∷ more) h none =
    go (places (λ d. key == plan_key d.plan) (suc n) (map Some more)) (key == plan_key e.plan) refl (same_plan p e.plan) refl none
    (none_from p key is at (suc n) more (λ j d w. let step : suc n + j ≡ n + suc j = omega arith in ap at step ∙ h (suc j) d w))
  where
    here : at n ≡ same_plan p e.plan
    here = let same : n ≡ n + 0 = omega arith in ap at same ∙ h 0 e refl

    go : (rest : List ℕ) (found : Bool) → (key == plan_key e.plan) ≡ found → (b : Bool) → same_plan p e.plan ≡ b
        → list_any at (cond found (n ∷ rest) rest) ≡ false → (list_any at rest ≡ false → has_plan p more ≡ false) → (b || has_plan p more) ≡ false
    go rest true f true s w later = absurd (true≢false (sym (ap (λ b. b || list_any at rest) (here ∙ s)) ∙ w))
    go rest false f true s w later = absurd (true≢false (sym (same_key p e.plan key is s) ∙ f))
    go rest true f false s w later = later (right_false (at n) (list_any at rest) w)
    go rest false f false s w later = later w

-- one place more is looked at
looked : (at : ℕ → Bool) (xs : List ℕ) (k j : ℕ) → slice_get xs k ≡ Some j → at j ≡ false → list_any at (take k xs) ≡ false
    → list_any at (take (suc k) xs) ≡ false
looked at [] k j e f h = cc
looked at (y ∷ xs) zero j e f h = let is : y ≡ j = cc in ap (λ z. at z || false) is ∙ ap (λ z. z || false) f
looked at (y ∷ xs) (suc k) j e f h = go (at y) (looked at xs k j e f) h where
  go : (t : Bool) → (list_any at (take k xs) ≡ false → list_any at (take (suc k) xs) ≡ false)
      → (t || list_any at (take k xs)) ≡ false → (t || list_any at (take (suc k) xs)) ≡ false
  go true more w = w
  go false more w = more w

pub looked_next : (p : Plan) (lib : List OwnedPlan) (xs : List ℕ) (k j : ℕ) → slice_get xs k ≡ Some j → is_plan p (slice_get lib j) ≡ false
    → list_any (λ i. is_plan p (slice_get lib i)) (take k xs) ≡ false → list_any (λ i. is_plan p (slice_get lib i)) (take (k + 1) xs) ≡ false
looked_next p lib xs k j e f h =
    let next : suc k ≡ k + 1 = omega arith in
    subst (λ m. list_any (λ i. is_plan p (slice_get lib i)) (take m xs) ≡ false) next (looked (λ i. is_plan p (slice_get lib i)) xs k j e f h)

pub not_past : (xs : List ℕ) (k : ℕ) → k < length xs → slice_get xs k ≡ None → ⊥
not_past [] k l e = omega (arith, l)
not_past (x ∷ xs) zero l e = cc
not_past (x ∷ xs) (suc k) l e = not_past xs k (omega (arith, l)) e

none_found : (p : Plan) (lib : List OwnedPlan) (keys : Keys) (key : ℕ) → key ≡ plan_key p → AreListed lib keys
    → list_any (λ k. is_plan p (slice_get lib k)) (listed keys key) ≡ false → has_plan p lib ≡ false
none_found p lib keys key is a none =
    none_from p key is (λ k. is_plan p (slice_get lib k)) 0 lib
    (λ j e at. let same : 0 + j ≡ j = omega arith in ap (λ k. is_plan p (slice_get lib k)) same ∙ ap (is_plan p) at)
    (sym (ap (list_any (λ k. is_plan p (slice_get lib k))) (a key)) ∙ none)

-- all places are looked at
pub none_left : (p : Plan) (lib : List OwnedPlan) (keys : Keys) (key k : ℕ) → key ≡ plan_key p → AreListed lib keys → length (listed keys key) ≤ k
    → list_any (λ i. is_plan p (slice_get lib i)) (take k (listed keys key)) ≡ false → has_plan p lib ≡ false
none_left p lib keys key k is a long none =
    none_found p lib keys key is a
    (ap (list_any (λ i. is_plan p (slice_get lib i))) (sym (take_all k (listed keys key) long)) ∙ none)

-- ---- the last plan is filed and listed

pub put_behind : (lib : List OwnedPlan) (e : OwnedPlan) (k : ℕ) (old new : FiledPlaces) (before after : Keys) (key : ℕ) → length lib ≡ suc k → slice_get lib k ≡ Some e
    → key ≡ plan_key e.plan → IsIndex (take k lib) old before → IsPut e.plan.trigger k old new → keyed.IsPut key k before after → IsIndex lib new after
put_behind lib e k old new before after key long at is a f l =
    let front : k ≡ length (take k lib) = sym (length_front lib k long) in
    subst (λ z. IsIndex z new after) (last_split lib e k long at)
    (index_more (take k lib) e old new before after key is a
    (subst (λ n. IsPut e.plan.trigger n old new) front f) (subst (λ n. keyed.IsPut key n before after) front l))

pub put_undone : (lib : List OwnedPlan) (e : OwnedPlan) (k : ℕ) (old mid new : FiledPlaces) (before after : Keys) → length lib ≡ suc k
    → IsIndex (take k lib) old before → IsPut e.plan.trigger k old mid → IsTaken e.plan.trigger k mid new → keyed.IsSame before after
    → IsIndex (take k lib) new after
put_undone lib e k old mid new before after long a f t same =
    let front : k ≡ length (take k lib) = sym (length_front lib k long) in
    record {
      filed = filed_undone (take k lib) e old mid new a.filed
          (subst (λ n. IsPut e.plan.trigger n old mid) front f) (subst (λ n. IsTaken e.plan.trigger n mid new) front t);
      listed = listed_same (take k lib) before after a.listed same;
    }
