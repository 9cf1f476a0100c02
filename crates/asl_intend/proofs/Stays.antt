-- Substitutions that leave means as they are, and what comes of a match that is put in as it is kept.
use Rattle.std.proofs.Common.{◌≡◌, ◌∙◌, ℕ, zero, suc, Bool, true, false, ◌||◌, cond, List, [], ◌∷◌, ◌++◌, map, drop, reverse, slice_get}
use Rattle.std.proofs.Common.{Option, Some, None, refl, sym, ap, subst}
use Rattle.std.specs.List.{AllByRecursion, list_any}
use Rattle.std.specs.Option.{unwrap_or}
use Rattle.std.proofs.lemmas.Bool.{false≢true}
use Rattle.std.proofs.lemmas.List.{reverse-append}
use Rattle.asl_term.specs.Trees.{same_var as same}
use Rattle.asl_term.specs.Variables.{occurs}
use Rattle.asl_term.specs.declared.syntax.Formula.{Formula}
use Rattle.asl_term.specs.declared.syntax.LiteralOf.{LiteralOf}
use Rattle.asl_term.specs.declared.syntax.Term.{Term}
use Rattle.asl_term.specs.declared.syntax.Term.TheVariants as term
use Rattle.asl_term.specs.declared.syntax.Trigger.{Trigger}
use Rattle.asl_term.specs.declared.syntax.Var.{Var}
use Rattle.asl_unify.specs.declared.subst.Pair.{Pair}
use Rattle.asl_unify.specs.Applied.{put_formula, put_literal, put_trigger}
use Rattle.asl_unify.specs.Compare.{find}
use Rattle.asl_unify.specs.Puts.{put, value_of}
use Rattle.asl_unify.specs.Turns.{apply_each, value_in}
use Rattle.asl_unify.proofs.Agree.{put-agree, same-true}
use Rattle.asl_unify.proofs.General.{find-None}
use Rattle.asl_unify.proofs.Laws.{put-var}
use Rattle.asl_unify.proofs.Twice.{formula_twice, trigger_twice}
use Rattle.asl_intend.specs.declared.entry.First.{First}
use Rattle.asl_intend.specs.declared.entry.Means.{Means}
use Rattle.asl_intend.specs.declared.entry.StackEntry.{StackEntry}
use Rattle.asl_intend.specs.Apart.{bound_to, in_pair, in_pairs, in_levels, stands_apart}
use Rattle.asl_intend.specs.Entries.{seen, seen_first}
use Rattle.asl_intend.specs.GoalMatches.{first_of, first_found}
use Rattle.asl_intend.specs.Means.{put_means}
use Rattle.asl_intend.specs.Stacks.{bound}
use Rattle.asl_intend.specs.Untouched.{binds, some_binds, stands_bound, some_stands, are_disjoint, pushed_first, LeavesEntry, StaysUnder, bound_each}
use Rattle.asl_intend.proofs.Logs.{map_joined}
use Rattle.asl_intend.proofs.Standing.{neither, not_true, clear_in, from_places, stays_in, flat_in, raw_match, full_match, means_turn}

-- ---- what is bound by none

unbound_pairs : (x : Var) (s : List Pair) → binds x s ≡ false → find s x ≡ None
unbound_pairs x [] e = refl
unbound_pairs x (p ∷ s) e =
    let n = neither (same p.var x) (binds x s) e in
    ap (λ b. cond b (Some p.term) (find s x)) n.0 ∙ unbound_pairs x s n.1

unbound_each : (x : Var) (rest : List (List Pair)) → some_binds x rest ≡ false → apply_each rest (term.Var x) ≡ term.Var x
unbound_each x [] e = refl
unbound_each x (s ∷ rest) e =
    let n = neither (binds x s) (some_binds x rest) e in
    ap (apply_each rest) (put-var (value_of s) x ∙ find-None s term.Var x (unbound_pairs x s n.0) refl) ∙ unbound_each x rest n.1

unbound_in : (x : Var) (own : List Pair) (rest : List (List Pair)) → some_binds x (own ∷ rest) ≡ false → value_in own rest x ≡ term.Var x
unbound_in x own rest e =
    let n = neither (binds x own) (some_binds x rest) e in
    ap (apply_each rest) (find-None own term.Var x (unbound_pairs x own n.0) refl) ∙ unbound_each x rest n.1

-- what is bound stands there

none_bound : (x : Var) (s : List Pair) → in_pairs x s ≡ false → binds x s ≡ false
none_bound x [] e = refl
none_bound x (p ∷ s) e =
    let n = neither (in_pair x p) (in_pairs x s) e in
    let m = neither (same p.var x) (occurs x p.term) n.0 in
    (λ i. m.0 i || none_bound x s n.1 i)

none_binds : (x : Var) (levels : List (List Pair)) → in_levels x levels ≡ false → some_binds x levels ≡ false
none_binds x [] e = refl
none_binds x (s ∷ levels) e = let n = neither (in_pairs x s) (in_levels x levels) e in (λ i. none_bound x s n.0 i || none_binds x levels n.1 i)

-- nothing that some bind stands in others
abbrev Parted : List (List Pair) → List (List Pair) → Type 0
Parted a b = (x : Var) → some_binds x a ≡ true → in_levels x b ≡ false

parted_pairs : (b : List (List Pair)) (s : List Pair) → stands_bound b s ≡ false → (x : Var) → binds x s ≡ true → in_levels x b ≡ false
parted_pairs b [] e x is = absurd (false≢true is)
parted_pairs b (p ∷ s) e x is =
    let n = neither (in_levels p.var b) (stands_bound b s) e in
    go n.0 (parted_pairs b s n.1 x) (same p.var x) refl is
  where
    go : in_levels p.var b ≡ false → (binds x s ≡ true → in_levels x b ≡ false) → (c : Bool) → same p.var x ≡ c → (c || binds x s) ≡ true
        → in_levels x b ≡ false
    go here later true u h = subst (λ y. in_levels y b ≡ false) (same-true p.var x u) here
    go here later false u h = later h

parted : (a b : List (List Pair)) → some_stands b a ≡ false → Parted a b
parted [] b e x is = absurd (false≢true is)
parted (s ∷ a) b e x is =
    let n = neither (stands_bound b s) (some_stands b a) e in
    go (parted_pairs b s n.0 x) (parted a b n.1 x) (binds x s) refl is
  where
    go : (binds x s ≡ true → in_levels x b ≡ false) → (some_binds x a ≡ true → in_levels x b ≡ false) → (c : Bool) → binds x s ≡ c
        → (c || some_binds x a) ≡ true → in_levels x b ≡ false
    go here later true u h = here u
    go here later false u h = later h

both_parted : (a b : List (List Pair)) → are_disjoint a b ≡ true → Parted a b × Parted b a
both_parted a b e = let n = neither (some_stands b a) (some_stands a b) (not_true (some_stands b a || some_stands a b) e) in (parted a b n.0, parted b a n.1)

-- ---- the one put in after the other, or the other way round

fixes : (own : List Pair) (rest : List (List Pair)) (late : List Pair) (more : List (List Pair)) → Parted (late ∷ more) (own ∷ rest) → (y : Var)
    → some_binds y (late ∷ more) ≡ false → put (value_in late more) (value_in own rest y) ≡ value_in own rest y
fixes own rest late more p y e =
    put-agree (value_in late more) term.Var (value_in own rest y) (λ z o. go z o (some_binds z (late ∷ more)) refl) ∙ flat_in own rest y
  where
    go : (z : Var) → occurs z (value_in own rest y) ≡ true → (b : Bool) → some_binds z (late ∷ more) ≡ b → value_in late more z ≡ term.Var z
    go z o false u = unbound_in z late more u
    go z o true u = absurd (false≢true (sym (from_places z (value_in own rest y) (clear_in z own rest (p z u) y ∙ other (same y z) refl)) ∙ o)) where
      other : (b : Bool) → same y z ≡ b → ◌≡◌ {A = ℕ} (cond (same y z) 1 0) 0
      other false v = ap (λ b. cond b 1 0) v
      other true v = absurd (false≢true (sym e ∙ ap (λ x. some_binds x (late ∷ more)) (same-true y z v) ∙ u))

module _ (own : List Pair) (rest : List (List Pair)) (late : List Pair) (more : List (List Pair))
    (there : Parted (late ∷ more) (own ∷ rest)) (back : Parted (own ∷ rest) (late ∷ more)) where
  abbrev h : Var → Term
  h = value_in own rest

  abbrev k : Var → Term
  k = value_in late more

  turns : (y : Var) → put k (h y) ≡ put h (k y)
  turns y = go (some_binds y (late ∷ more)) refl where
    go : (b : Bool) → some_binds y (late ∷ more) ≡ b → put k (h y) ≡ put h (k y)
    go false u = fixes own rest late more there y u ∙ sym (ap (put h) (unbound_in y late more u) ∙ put-var h y)
    go true u =
        let out = there y u in
        ap (put k) (stays_in y own rest out) ∙ put-var k y ∙ sym (fixes late more own rest back y (none_binds y (own ∷ rest) out))

  trigger_left : (t : Trigger) → put_trigger k t ≡ t → put_trigger k (put_trigger h t) ≡ put_trigger h t
  trigger_left t e = sym (trigger_twice k h t) ∙ (λ i. put_trigger (λ y. turns y i) t) ∙ trigger_twice h k t ∙ ap (put_trigger h) e

  formula_turns : (f : Formula) → put_formula k (put_formula h f) ≡ put_formula h (put_formula k f)
  formula_turns f = sym (formula_twice k h f) ∙ (λ i. put_formula (λ y. turns y i) f) ∙ formula_twice h k f

  formulas_turn : (fs : List Formula) → map (put_formula k) (map (put_formula h) fs) ≡ map (put_formula h) (map (put_formula k) fs)
  formulas_turn [] = refl
  formulas_turn (f ∷ fs) = (λ i. formula_turns f i ∷ formulas_turn fs i)

  formulas_left : (fs : List Formula) → map (put_formula k) fs ≡ fs → map (put_formula k) (map (put_formula h) fs) ≡ map (put_formula h) fs
  formulas_left fs e = formulas_turn fs ∙ ap (map (put_formula h)) e

-- ---- an entry, and a stack

drop_none : {A : Type 0} (f : A → Bool) (n : ℕ) (xs : List A) → list_any f xs ≡ false → list_any f (drop n xs) ≡ false
drop_none f zero xs e = e
drop_none f (suc n) [] e = e
drop_none f (suc n) (x ∷ xs) e = drop_none f n xs (neither (f x) (list_any f xs) e).1

module _ (late : List Pair) (more log : List (List Pair)) (there : Parted (late ∷ more) ([] ∷ log)) (back : Parted ([] ∷ log) (late ∷ more)) where
  there_in : (own : List Pair) (n : ℕ) → Parted (late ∷ more) (own ∷ []) → Parted (late ∷ more) (own ∷ drop n log)
  there_in own n p x is =
      let a = neither (in_pairs x own) false (p x is) in
      let b = drop_none (in_pairs x) n log (there x is) in
      (λ i. a.0 i || b i)

  back_in : (own : List Pair) (n : ℕ) → Parted (own ∷ []) (late ∷ more) → Parted (own ∷ drop n log) (late ∷ more)
  back_in own n p x is = go (binds x own) refl is where
    in_log : some_binds x (drop n log) ≡ true → (b : Bool) → some_binds x log ≡ b → in_levels x (late ∷ more) ≡ false
    in_log h true u = back x u
    in_log h false u = absurd (false≢true (sym (drop_none (binds x) n log u) ∙ h))

    go : (b : Bool) → binds x own ≡ b → (b || some_binds x (drop n log)) ≡ true → in_levels x (late ∷ more) ≡ false
    go true u h = p x (ap (λ b. b || false) u)
    go false u h = in_log h (some_binds x log) refl

  nothing_in : Parted (late ∷ more) ([] ∷ [])
  nothing_in x is = refl

  nothing_back : Parted ([] ∷ []) (late ∷ more)
  nothing_back x is = absurd (false≢true is)

  first_left : (o : Option First) → map (put_formula (value_in late more)) (pushed_first o) ≡ pushed_first o
      → map (put_formula (value_in late more)) (seen_first log o) ≡ seen_first log o
  first_left None e = refl
  first_left (Some f) e = formulas_left [] (drop f.since log) late more (there_in [] f.since nothing_in) (back_in [] f.since nothing_back) (f.formula ∷ []) e

  entry_left : (e : StackEntry) → LeavesEntry late more e → put_means (value_in late more) (seen log e) ≡ seen log e
  entry_left e l =
      let apart = both_parted (e.own ∷ []) (late ∷ more) l.0 in
      let out = there_in e.own e.since apart.1 in
      let in_it = back_in e.own e.since apart.0 in
      let after = put_formula (value_in late more) in
      let shown = map (put_formula (value_in e.own (drop e.since log))) e.body in
      let trigger = trigger_left e.own (drop e.since log) late more out in_it e.trigger l.1 in
      let first = first_left e.first l.2 in
      let body = formulas_left e.own (drop e.since log) late more out in_it e.body l.3 in
      let all = map_joined after (seen_first log e.first) shown ∙ (λ i. first i ++ body i) in
      (λ i. record { trigger = trigger i; body = all i })

  abbrev Stays : List StackEntry → Type 0
  Stays es = map (put_means (value_in late more)) (map (seen log) es) ≡ map (seen log) es

  stays_joined : (a b : List StackEntry) → Stays a → Stays b → Stays (a ++ b)
  stays_joined a b s t =
      ap (map (put_means (value_in late more))) (map_joined (seen log) a b) ∙ map_joined (put_means (value_in late more)) (map (seen log) a) (map (seen log) b)
      ∙ (λ i. s i ++ t i) ∙ sym (map_joined (seen log) a b)

  stays_reversed : (es : List StackEntry) → AllByRecursion (LeavesEntry late more) es → Stays (reverse es)
  stays_reversed [] a = refl
  stays_reversed (e ∷ es) a =
      subst Stays (sym (reverse-append (e ∷ []) es)) (stays_joined (reverse es) (e ∷ []) (stays_reversed es a.1) (λ i. entry_left e a.0 i ∷ []))

pub stack_left : (late : List Pair) (more log : List (List Pair)) (es : List StackEntry) → are_disjoint ([] ∷ log) (late ∷ more) ≡ true
    → AllByRecursion (LeavesEntry late more) es
    → map (put_means (value_in late more)) (map (seen log) (reverse es)) ≡ map (seen log) (reverse es)
stack_left late more log es d a = let p = both_parted ([] ∷ log) (late ∷ more) d in stays_reversed late more log p.1 p.0 es a

-- ---- substitutions put in one after another

module _ (h k : Var → Term) where
  formulas_twice : (fs : List Formula) → map (put_formula h) (map (put_formula k) fs) ≡ map (put_formula (λ x. put h (k x))) fs
  formulas_twice [] = refl
  formulas_twice (f ∷ fs) = (λ i. sym (formula_twice h k f) i ∷ formulas_twice fs i)

  means_twice : (stack : List Means) → map (put_means h) (map (put_means k) stack) ≡ map (put_means (λ x. put h (k x))) stack
  means_twice [] = refl
  means_twice (m ∷ stack) = (λ i. record { trigger = sym (trigger_twice h k m.trigger) i; body = formulas_twice m.body i } ∷ means_twice stack i)

each_bound : (k : Var → Term) (rest : List (List Pair)) (stack : List Means)
    → bound_each rest (map (put_means k) stack) ≡ map (put_means (λ x. apply_each rest (k x))) stack
each_bound k [] stack = refl
each_bound k (s ∷ rest) stack = ap (bound_each rest) (means_twice (value_of s) k stack) ∙ each_bound (λ x. put (value_of s) (k x)) rest stack

module _ (g l : LiteralOf Term) (own : List Pair) (rest : List (List Pair)) (apart : stands_apart g l (own ∷ rest) ≡ true) where
  abbrev after : Var → Term
  after = value_in own rest

  turned : (stack : List Means) → map (put_means after) stack ≡ stack
      → map (put_means after) (bound (bound_to g.args l.args) stack) ≡ bound (bound_to g.args (map (put after) l.args)) stack
  turned [] e = refl
  turned (m ∷ stack) e =
      let here : put_means after m ≡ m = cc in
      let below : map (put_means after) stack ≡ stack = cc in
      (λ i. means_turn g l own rest apart m here i ∷ turned stack below i)

  match_turned : (raw : List Pair) (stack : List Means) → first_of g l ≡ Some raw → map (put_means after) stack ≡ stack
      → bound_each (own ∷ rest) (bound raw stack) ≡ bound (first_found g (put_literal after l)) stack
  match_turned raw stack is e =
      let some : Some raw ≡ Some (bound_to g.args l.args) = sym is ∙ ap (λ ms. slice_get ms 0) (raw_match g l own rest apart) in
      let same : raw ≡ bound_to g.args l.args = cc in
      let full : first_found g (put_literal after l) ≡ bound_to g.args (map (put after) l.args) =
      ap (λ ms. unwrap_or (slice_get ms 0) []) (full_match g l own rest apart) in
      ap (λ s. bound_each (own ∷ rest) (bound s stack)) same
      ∙ each_bound (value_of own) rest (bound (bound_to g.args l.args) stack)
      ∙ turned stack e ∙ sym (ap (λ s. bound s stack) full)

pub kept_bound : (g : LiteralOf Term) (e : StackEntry) (log rest : List (List Pair)) (raw : List Pair) (old new : List Means) → rest ≡ drop e.since log
    → StaysUnder g e.trigger.lit e.own rest old → first_of g e.trigger.lit ≡ Some raw → new ≡ bound_each (e.own ∷ rest) (bound raw old)
    → new ≡ bound (first_found g (seen log e).trigger.lit) old
kept_bound g e log rest raw old new r stays is made =
    made ∙ match_turned g e.trigger.lit e.own rest stays.0 raw old is stays.1
    ∙ ap (λ rest. bound (first_found g (put_literal (value_in e.own rest) e.trigger.lit)) old) r
