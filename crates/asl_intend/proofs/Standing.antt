-- Variables that stand nowhere else, and what a match binds them to.
use Rattle.std.proofs.Common.{◌≡◌, ℕ, ◌+◌, Bool, true, false, ◌&&◌, ◌||◌, eqb, cond, List, [], ◌∷◌, ◌++◌, map, length}
use Rattle.std.proofs.Common.{Option, Some, None, refl, sym, ap, subst, ◌∙◌, arith}
use Rattle.std.specs.Prelude.{not}
use Rattle.std.specs.Option.{option_map}
use Rattle.std.specs.Str.{bytes_eq}
use Rattle.std.proofs.lemmas.Bool.{false≢true, eqb-true}
use Rattle.std.proofs.lemmas.List.{append-nil, length-map}
use Rattle.std.proofs.lemmas.List.Folds.{list_any-append}
use Rattle.asl_term.specs.Trees.{same_var as same}
use Rattle.asl_term.specs.Variables.{occurs, occurs_step}
use Rattle.asl_term.specs.declared.syntax.Formula.{Formula}
use Rattle.asl_term.specs.declared.syntax.LiteralOf.{LiteralOf}
use Rattle.asl_term.specs.declared.syntax.Term.{Term}
use Rattle.asl_term.specs.declared.syntax.Term.TheVariants as term
use Rattle.asl_term.specs.declared.syntax.Term.TheOpen as layer
use Rattle.asl_term.specs.declared.syntax.Trigger.{Trigger}
use Rattle.asl_term.specs.declared.syntax.Var.{Var}
use Rattle.asl_term.proofs.Terms.{fold_var}
use Rattle.asl_unify.specs.declared.subst.Pair.{Pair}
use Rattle.asl_unify.specs.Applied.{put_formula, put_literal, put_trigger}
use Rattle.asl_unify.specs.Compare.{Question, ask, asks, Go, End, Unified, Occurs, find, look, look_var, var_of, var_in}
use Rattle.asl_unify.specs.Compare.{counted, bind, by_vars, with_left, with_right, step, same_sign, same_frame, Leads, finished, goes}
use Rattle.asl_unify.specs.Matches.{annots, matches, on_unified}
use Rattle.asl_unify.specs.Puts.{put, only, with_pair, with_pairs, value_of, apply, IsSubst}
use Rattle.asl_unify.specs.Turns.{apply_each, value_in}
use Rattle.asl_unify.specs.Unified.{unified}
use Rattle.asl_unify.specs.inner.Costs.{weight, weight_step, one_at, places}
use Rattle.asl_unify.proofs.Agree.{put-agree, same-self, same-true}
use Rattle.asl_unify.proofs.Costs.{weight-put, no_places}
use Rattle.asl_unify.proofs.General.{find-None, var_of-Some}
use Rattle.asl_unify.proofs.Laws.{Flat, FlatValues, put-var, put-same, flat-var, flat-put, flat-values}
use Rattle.asl_unify.proofs.Meets.{some_place}
use Rattle.asl_unify.proofs.Puts.{put-put}
use Rattle.asl_unify.proofs.Twice.{formula_twice, trigger_twice}
use Rattle.asl_unify.proofs.Unified.{leads_unified, unified_reaches}
use Rattle.asl_unify.proofs.Views.{out_made}
use Rattle.asl_unify.proofs.Walks.{walk_same, free_looks}
use Rattle.asl_intend.specs.declared.entry.Means.{Means}
use Rattle.asl_intend.specs.Means.{put_means, applied_means}
use Rattle.asl_intend.specs.Apart.{with_bound, bound_to, stands, in_pair, in_pairs, in_levels, is_apart, are_apart, is_bare, stands_apart}

pub neither : (a b : Bool) → (a || b) ≡ false → (a ≡ false) × (b ≡ false)
neither false b e = (refl, e)
neither true b e = absurd (false≢true (sym e))

each : (a b : Bool) → (a && b) ≡ true → (a ≡ true) × (b ≡ true)
each true b e = (refl, e)
each false b e = absurd (false≢true e)

third : (a b c : Bool) → (a && b && c) ≡ true → c ≡ true
third true true c e = e
third true false c e = absurd (false≢true e)
third false b c e = absurd (false≢true e)

all_three : (a b c : Bool) → (a && b && c) ≡ true → (a ≡ true) × (b ≡ true) × (c ≡ true)
all_three true true c e = (refl, refl, e)
all_three true false c e = absurd (false≢true e)
all_three false b c e = absurd (false≢true e)

pub not_true : (b : Bool) → not b ≡ true → b ≡ false
not_true false e = refl
not_true true e = absurd (false≢true e)

flip : (x y : Var) → same x y ≡ false → same y x ≡ false
flip x y e = go (same y x) refl where
  go : (b : Bool) → same y x ≡ b → same y x ≡ false
  go false u = u
  go true u = absurd (false≢true (sym e ∙ ap (same x) (same-true y x u) ∙ same-self x))

-- what stands in a variable is it
other_var : (x y : Var) (t : Term) → t ≡ term.Var y → occurs x t ≡ false → same y x ≡ false
other_var x y t e o = sym (fold_var Bool (occurs_step x) y) ∙ ap (occurs x) (sym e) ∙ o

var_of_var : (v : Var) → var_of (term.Var v) ≡ Some v
var_of_var v = ap var_in (out_made (layer.Var v))

-- a variable that stands in no pair is as often in what becomes of a term as in the term

module _ (x : Var) where
  abbrev Clear : (Var → Term) → Type 0
  Clear h = (y : Var) → places x (h y) ≡ one_at x y

  clear_var : Clear term.Var
  clear_var y = fold_var ℕ (weight_step (one_at x)) y

  clear_put : (h : Var → Term) → Clear h → (t : Term) → places x (put h t) ≡ places x t
  clear_put h c t = weight-put (one_at x) h t ∙ (λ i. weight (λ y. c y i) t)

  clear_only : (v : Var) (t : Term) → one_at x v ≡ 0 → places x t ≡ 0 → Clear (only v t)
  clear_only v t a n y = go (same y v) refl where
    go : (b : Bool) → same y v ≡ b → places x (cond b t (term.Var y)) ≡ one_at x y
    go true u = n ∙ sym (ap (one_at x) (same-true y v u) ∙ a)
    go false u = clear_var y

  clear_pair : (p : Pair) (h : Var → Term) → Clear h → in_pair x p ≡ false → Clear (with_pair p h)
  clear_pair p h c e y =
      let n = neither (same p.var x) (occurs x p.term) e in
      let v = put h p.term in
      clear_put (only p.var v) (clear_only p.var v (ap (λ b. cond b 1 0) n.0) (clear_put h c p.term ∙ no_places x p.term n.1)) (h y) ∙ c y

  clear_pairs : (s : List Pair) (h : Var → Term) → Clear h → in_pairs x s ≡ false → Clear (with_pairs s h)
  clear_pairs [] h c e = c
  clear_pairs (p ∷ s) h c e = let n = neither (in_pair x p) (in_pairs x s) e in clear_pairs s (with_pair p h) (clear_pair p h c n.0) n.1

  clear_each : (rest : List (List Pair)) → in_levels x rest ≡ false → (t : Term) → places x (apply_each rest t) ≡ places x t
  clear_each [] e t = refl
  clear_each (s ∷ rest) e t =
      let n = neither (in_pairs x s) (in_levels x rest) e in
      clear_each rest n.1 (apply s t) ∙ clear_put (value_of s) (clear_pairs s term.Var clear_var n.0) t

  pub clear_in : (own : List Pair) (rest : List (List Pair)) → in_levels x (own ∷ rest) ≡ false → Clear (value_in own rest)
  clear_in own rest e y =
      let n = neither (in_pairs x own) (in_levels x rest) e in
      clear_each rest n.1 (value_of own y) ∙ clear_pairs own term.Var clear_var n.0 y

  pub from_places : (t : Term) → places x t ≡ 0 → occurs x t ≡ false
  from_places t n = go (occurs x t) refl where
    go : (b : Bool) → occurs x t ≡ b → occurs x t ≡ false
    go false u = u
    go true u = let p = some_place x t u in absurd (omega (arith, p, n))

  no_pair : (s : List Pair) → in_pairs x s ≡ false → find s x ≡ None
  no_pair [] e = refl
  no_pair (p ∷ s) e =
      let n = neither (in_pair x p) (in_pairs x s) e in
      let a = neither (same p.var x) (occurs x p.term) n.0 in
      ap (λ b. cond b (Some p.term) (find s x)) a.0 ∙ no_pair s n.1

  own_stays : (s : List Pair) → in_pairs x s ≡ false → value_of s x ≡ term.Var x
  own_stays s e = find-None s term.Var x (no_pair s e) refl

  each_stays : (rest : List (List Pair)) → in_levels x rest ≡ false → apply_each rest (term.Var x) ≡ term.Var x
  each_stays [] e = refl
  each_stays (s ∷ rest) e =
      let n = neither (in_pairs x s) (in_levels x rest) e in
      ap (apply_each rest) (put-var (value_of s) x ∙ own_stays s n.0) ∙ each_stays rest n.1

  pub stays_in : (own : List Pair) (rest : List (List Pair)) → in_levels x (own ∷ rest) ≡ false → value_in own rest x ≡ term.Var x
  stays_in own rest e =
      let n = neither (in_pairs x own) (in_levels x rest) e in
      ap (apply_each rest) (own_stays own n.0) ∙ each_stays rest n.1

-- ---- the match

-- variables that are left, none of which stands in the terms that are left or in the pairs so far
abbrev Left : List Term → List Pair → List Term → Type 0
Left ts acc [] = Unit {0}
Left ts acc (x ∷ xs) = ((v : Var) × (x ≡ term.Var v) × (stands v xs ≡ false) × (stands v ts ≡ false) × (in_pairs v acc ≡ false)) × Left ts acc xs

-- no variable of the pairs stands in the terms
abbrev Free : List Term → List Pair → Type 0
Free ts [] = Unit {0}
Free ts (p ∷ s) = (stands p.var ts ≡ false) × Free ts s

free_find : (s : List Pair) (y : Var) (t : Term) (ts : List Term) → t ≡ term.Var y → Free (t ∷ ts) s → find s y ≡ None
free_find [] y t ts e f = refl
free_find (p ∷ s) y t ts e f =
    let n = neither (occurs p.var t) (stands p.var ts) f.0 in
    ap (λ b. cond b (Some p.term) (find s y)) (flip y p.var (other_var p.var y t e n.0)) ∙ free_find s y t ts e f.1

free_look : (s : List Pair) (t : Term) (ts : List Term) → Free (t ∷ ts) s → look s t ≡ None
free_look s t ts f = go (var_of t) refl where
  go : (o : Option Var) → var_of t ≡ o → look_var s o ≡ None
  go None u = refl
  go (Some y) u = free_find s y t ts (var_of-Some t y u) f

one_step : (v : Var) (t : Term) (w : List Question) (s : List Pair) (k : ℕ) → find s v ≡ None → look s t ≡ None → occurs v t ≡ false
    → occurs v (apply s t) ≡ false
    → step (ask (term.Var v) t) w s k ≡ Go w (s ++ record { var = v; term = t } ∷ []) (counted k)
one_step v t w s k f l o a =
    ap (λ z. with_left z (term.Var v) t w s k) (free_looks s (term.Var v) v refl f)
    ∙ ap (λ z. with_right z (term.Var v) t w s k) l
    ∙ ap (λ z. by_vars z (var_of t) (term.Var v) t w s k) (var_of_var v)
    ∙ go (var_of t) refl
  where
    bound : bind v t w s k ≡ Go w (s ++ record { var = v; term = t } ∷ []) (counted k)
    bound = ap (λ b. cond b (End Occurs) (Go w (s ++ record { var = v; term = t } ∷ []) (counted k))) a

    go : (z : Option Var) → var_of t ≡ z → by_vars (Some v) z (term.Var v) t w s k ≡ Go w (s ++ record { var = v; term = t } ∷ []) (counted k)
    go None u = bound
    go (Some y) u = ap (λ b. cond b (Go w s (counted k)) (bind v t w s k)) (flip y v (other_var v y t (var_of-Some t y u) o)) ∙ bound

left_next : (v : Var) (t : Term) (ts : List Term) (s : List Pair) (xs : List Term) → stands v xs ≡ false → Left (t ∷ ts) s xs
    → Left ts (s ++ record { var = v; term = t } ∷ []) xs
left_next v t ts s [] a l = tt
left_next v t ts s (x ∷ xs) a l =
    let w = l.0.0 in
    let n = neither (occurs v x) (stands v xs) a in
    let m = neither (occurs w t) (stands w ts) l.0.3 in
    let other : same v w ≡ false = flip w v (other_var v w x l.0.1 n.0) in
    let none : in_pairs w (s ++ record { var = v; term = t } ∷ []) ≡ false = list_any-append (in_pair w) s (record { var = v; term = t } ∷ [])
    ∙ (λ i. l.0.4 i || ((other i || m.0 i) || false)) in
    ((w, l.0.1, l.0.2, m.1, none), left_next v t ts s xs n.1 l.1)

free_next : (v : Var) (t : Term) (ts : List Term) (s : List Pair) → stands v ts ≡ false → Free (t ∷ ts) s → Free ts (s ++ record { var = v; term = t } ∷ [])
free_next v t ts [] a f = (a, tt)
free_next v t ts (p ∷ s) a f = ((neither (occurs p.var t) (stands p.var ts) f.0).1, free_next v t ts s a f.1)

joined : (s : List Pair) (p : Pair) (more : List Pair) → (s ++ p ∷ []) ++ more ≡ s ++ p ∷ more
joined [] p more = refl
joined (q ∷ s) p more = ap (λ l. q ∷ l) (joined s p more)

clear_apply : (v : Var) (s : List Pair) (t : Term) → in_pairs v s ≡ false → occurs v t ≡ false → occurs v (apply s t) ≡ false
clear_apply v s t e o = from_places v (apply s t) (clear_put v (value_of s) (clear_pairs v s term.Var (clear_var v) e) t ∙ no_places v t o)

lead : (xs ts : List Term) (s : List Pair) (k : ℕ) → length xs ≡ length ts → Left ts s xs → Free ts s
    → Leads (asks xs ts []) s k (Unified (s ++ bound_to xs ts))
lead [] [] s k n l f = subst (λ z. Leads [] s k (Unified z)) (sym (append-nil s)) finished
lead [] (t ∷ ts) s k n l f = absurd (omega (arith, n))
lead (x ∷ xs) [] s k n l f = absurd (omega (arith, n))
lead (x ∷ xs) (t ∷ ts) s k n l f =
    let v = l.0.0 in
    let p : Pair = record { var = v; term = t } in
    let m = neither (occurs v t) (stands v ts) l.0.3 in
    let here : step (ask x t) (asks xs ts []) s k ≡ Go (asks xs ts []) (s ++ p ∷ []) (counted k) =
    ap (λ z. step (ask z t) (asks xs ts []) s k) l.0.1
    ∙ one_step v t (asks xs ts []) s k (no_pair v s l.0.4) (free_look s t ts f) m.0 (clear_apply v s t l.0.4 m.0) in
    let rest = lead xs ts (s ++ p ∷ []) (counted k) (omega (arith, n)) (left_next v t ts s xs l.0.2 l.1) (free_next v t ts s m.1 f) in
    let same : (s ++ p ∷ []) ++ bound_to xs ts ≡ s ++ bound_to (x ∷ xs) (t ∷ ts) =
    joined s p (bound_to xs ts) ∙ ap (λ o. s ++ with_bound o t (bound_to xs ts)) (sym (ap var_of l.0.1 ∙ var_of_var v)) in
    goes here (subst (λ z. Leads (asks xs ts []) (s ++ p ∷ []) (counted k) (Unified z)) same rest)

comes_to : (xs ts : List Term) → length xs ≡ length ts → Left ts [] xs → unified [] (asks xs ts []) ≡ Unified (bound_to xs ts)
comes_to xs ts n l = leads_unified [] (asks xs ts []) (Unified (bound_to xs ts)) tt (lead xs ts [] 0 n l tt)

is_sound : (xs ts : List Term) → length xs ≡ length ts → Left ts [] xs → IsSubst (bound_to xs ts)
is_sound xs ts n l = (unified_reaches [] (bound_to xs ts) (asks xs ts []) tt (comes_to xs ts n l)).sound

-- ---- variables that stand apart

module _ (us : List Term) (own : List Pair) (rest : List (List Pair)) where
  abbrev h : Var → Term
  h = value_in own rest

  abbrev ts : List Term
  ts = map (put h) us

  abbrev Apart : Var → Type 0
  Apart v = (stands v us ≡ false) × (in_levels v (own ∷ rest) ≡ false)

  put_stands : (v : Var) → in_levels v (own ∷ rest) ≡ false → (zs : List Term) → stands v zs ≡ false → stands v (map (put h) zs) ≡ false
  put_stands v e [] a = refl
  put_stands v e (z ∷ zs) a =
      let n = neither (occurs v z) (stands v zs) a in
      let here : occurs v (put h z) ≡ false = from_places v (put h z) (clear_put v h (clear_in v own rest e) z ∙ no_places v z n.0) in
      (λ i. here i || put_stands v e zs n.1 i)

  left_by : (x : Term) (xs : List Term) (o : Option Var) → var_of x ≡ o → is_apart us (own ∷ rest) xs o ≡ true
      → (v : Var) × (x ≡ term.Var v) × (stands v xs ≡ false) × (stands v us ≡ false) × (in_levels v (own ∷ rest) ≡ false)
  left_by x xs None u a = absurd (false≢true a)
  left_by x xs (Some v) u a =
      let n = neither (stands v xs) (stands v us || in_levels v (own ∷ rest)) (not_true (stands v xs || (stands v us || in_levels v (own ∷ rest))) a) in
      let m = neither (stands v us) (in_levels v (own ∷ rest)) n.1 in
      (v, var_of-Some x v u, n.0, m.0, m.1)

  left_raw : (xs : List Term) → are_apart us (own ∷ rest) xs ≡ true → Left us [] xs
  left_raw [] a = tt
  left_raw (x ∷ xs) a =
      let e = each (is_apart us (own ∷ rest) xs (var_of x)) (are_apart us (own ∷ rest) xs) a in
      let l = left_by x xs (var_of x) refl e.0 in
      ((l.0, l.1, l.2, l.3, refl), left_raw xs e.1)

  left_put : (xs : List Term) → are_apart us (own ∷ rest) xs ≡ true → Left ts [] xs
  left_put [] a = tt
  left_put (x ∷ xs) a =
      let e = each (is_apart us (own ∷ rest) xs (var_of x)) (are_apart us (own ∷ rest) xs) a in
      let l = left_by x xs (var_of x) refl e.0 in
      ((l.0, l.1, l.2, put_stands l.0 l.4 us l.3, refl), left_put xs e.1)

  -- a variable that is bound stands apart
  found : (xs zs : List Term) (v : Var) (u : Term) → are_apart us (own ∷ rest) xs ≡ true → find (bound_to xs zs) v ≡ Some u → Apart v
  found [] zs v u a f = cc
  found (x ∷ xs) [] v u a f = cc
  found (x ∷ xs) (z ∷ zs) v u a f =
      let e = each (is_apart us (own ∷ rest) xs (var_of x)) (are_apart us (own ∷ rest) xs) a in
      let l = left_by x xs (var_of x) refl e.0 in
      let w = l.0 in
      let is : find (with_bound (Some w) z (bound_to xs zs)) v ≡ Some u =
      ap (λ o. find (with_bound o z (bound_to xs zs)) v) (sym (ap var_of l.1 ∙ var_of_var w)) ∙ f in
      go w (l.3, l.4) (same w v) refl is (found xs zs v u e.1)
    where
      go : (w : Var) → Apart w → (b : Bool) → same w v ≡ b → cond b (Some z) (find (bound_to xs zs) v) ≡ Some u → (find (bound_to xs zs) v ≡ Some u → Apart v)
          → Apart v
      go w k true s g more = subst Apart (same-true w v s) k
      go w k false s g more = more g

-- what a variable is bound to is one of the terms

found_in : (xs zs : List Term) (v : Var) (u : Term) → find (bound_to xs zs) v ≡ Some u → (y : Var) → stands y zs ≡ false → occurs y u ≡ false
found_in [] zs v u f y a = cc
found_in (x ∷ xs) [] v u f y a = cc
found_in (x ∷ xs) (z ∷ zs) v u f y a =
    let n = neither (occurs y z) (stands y zs) a in
    go (var_of x) f n.0 (λ e. found_in xs zs v u e y n.1)
  where
    pick : (b : Bool) → cond b (Some z) (find (bound_to xs zs) v) ≡ Some u → occurs y z ≡ false → (find (bound_to xs zs) v ≡ Some u → occurs y u ≡ false)
        → occurs y u ≡ false
    pick true e n more = let is : z ≡ u = cc in ap (occurs y) (sym is) ∙ n
    pick false e n more = more e

    go : (o : Option Var) → find (with_bound o z (bound_to xs zs)) v ≡ Some u → occurs y z ≡ false
        → (find (bound_to xs zs) v ≡ Some u → occurs y u ≡ false) → occurs y u ≡ false
    go None e n more = more e
    go (Some w) e n more = pick (same w v) e n more

found_map : (f : Term → Term) (xs zs : List Term) (v : Var) → find (bound_to xs (map f zs)) v ≡ option_map f (find (bound_to xs zs) v)
found_map f [] zs v = refl
found_map f (x ∷ xs) [] v = refl
found_map f (x ∷ xs) (z ∷ zs) v =
    go (var_of x) (found_map f xs zs v)
  where
    pick : (b : Bool) → find (bound_to xs (map f zs)) v ≡ option_map f (find (bound_to xs zs) v)
        → cond b (Some (f z)) (find (bound_to xs (map f zs)) v) ≡ option_map f (cond b (Some z) (find (bound_to xs zs) v))
    pick true rest = refl
    pick false rest = rest

    go : (o : Option Var) → find (bound_to xs (map f zs)) v ≡ option_map f (find (bound_to xs zs) v)
        → find (with_bound o (f z) (bound_to xs (map f zs))) v ≡ option_map f (find (with_bound o z (bound_to xs zs)) v)
    go None rest = rest
    go (Some w) rest = pick (same w v) rest

-- a term in which no bound variable stands
still : (s : List Pair) (t : Term) → ((y : Var) (u : Term) → find s y ≡ Some u → occurs y t ≡ false) → apply s t ≡ put term.Var t
still s t n = put-agree (value_of s) term.Var t (λ y o. go y o (find s y) refl) where
  go : (y : Var) → occurs y t ≡ true → (r : Option Term) → find s y ≡ r → value_of s y ≡ term.Var y
  go y o None e = find-None s term.Var y e refl
  go y o (Some u) e = absurd (false≢true (sym (n y u e) ∙ o))

-- what a bound variable becomes
bound_value : (s : List Pair) (y : Var) (u : Term) → IsSubst s → find s y ≡ Some u → ((z : Var) (r : Term) → find s z ≡ Some r → occurs z u ≡ false)
    → value_of s y ≡ put term.Var u
bound_value s y u i f n = sym (put-var (value_of s) y) ∙ sym (walk_same s (term.Var y) u i (ap (look_var s) (var_of_var y) ∙ f)) ∙ still s u n

flat_each : (rest : List (List Pair)) (t : Term) → Flat t → Flat (apply_each rest t)
flat_each [] t f = f
flat_each (s ∷ rest) t f = flat_each rest (apply s t) (flat-put (value_of s) (flat-values s term.Var flat-var) t)

pub flat_in : (own : List Pair) (rest : List (List Pair)) → FlatValues (value_in own rest)
flat_in own rest y = flat_each rest (value_of own y) (flat-values own term.Var flat-var y)

module _ (xs us : List Term) (own : List Pair) (rest : List (List Pair)) (n : length xs ≡ length us) (apart : are_apart us (own ∷ rest) xs ≡ true) where
  abbrev after : Var → Term
  after = value_in own rest

  abbrev vs : List Term
  vs = map (put after) us

  abbrev raw : List Pair
  raw = bound_to xs us

  abbrev full : List Pair
  full = bound_to xs vs

  same_length : length xs ≡ length vs
  same_length = n ∙ sym (length-map us (put after))

  raw_of : (z : Var) (r : Term) → find full z ≡ Some r → Apart us own rest z
  raw_of z r e = found us own rest xs vs z r apart e

  apart_values : (y : Var) → find raw y ≡ None → (z : Var) (r : Term) → find full z ≡ Some r → occurs z (after y) ≡ false
  apart_values y e z r f =
      let a = raw_of z r f in
      from_places z (after y) (clear_in z own rest a.1 y ∙ go (same y z) refl)
    where
      go : (b : Bool) → same y z ≡ b → ◌≡◌ {A = ℕ} (cond (same y z) 1 0) 0
      go false u = ap (λ b. cond b 1 0) u
      go true u =
          let none : find full z ≡ None = ap (find full) (sym (same-true y z u)) ∙ found_map (put after) xs us y ∙ ap (option_map (put after)) e in
          let no : None ≡ Some r = sym none ∙ f in cc

  -- the match of what is not built, and then what is still to be put into it, or the same in the other order
  turns : (y : Var) → put after (value_of raw y) ≡ put (value_of full) (after y)
  turns y = go (find raw y) refl where
    go : (o : Option Term) → find raw y ≡ o → put after (value_of raw y) ≡ put (value_of full) (after y)
    go None e =
        ap (put after) (find-None raw term.Var y e refl) ∙ put-var after y
        ∙ sym (still full (after y) (apart_values y e) ∙ flat_in own rest y)
    go (Some u) e =
        let here : find full y ≡ Some (put after u) = found_map (put after) xs us y ∙ ap (option_map (put after)) e in
        let a = raw_of y (put after u) here in
        let left : value_of raw y ≡ put term.Var u =
        bound_value raw y u (is_sound xs us n (left_raw us own rest xs apart)) e (λ z r f. found_in xs us y u e z (found us own rest xs us z r apart f).0) in
        let right : value_of full y ≡ put term.Var (put after u) =
        bound_value full y (put after u) (is_sound xs vs same_length (left_put us own rest xs apart)) here
        (λ z r f. found_in xs vs y (put after u) here z (put_stands us own rest z (raw_of z r f).1 us (raw_of z r f).0)) in
        ap (put after) left ∙ put-put after term.Var u ∙ put-same (λ x. put after (term.Var x)) after (λ x. put-var after x) u
        ∙ sym (ap (put (value_of full)) (stays_in y own rest a.1) ∙ put-var (value_of full) y ∙ right ∙ flat-put after (flat_in own rest) u)

  formula_turns : (f : Formula) → put_formula after (put_formula (value_of raw) f) ≡ put_formula (value_of full) (put_formula after f)
  formula_turns f = sym (formula_twice after (value_of raw) f) ∙ (λ i. put_formula (λ y. turns y i) f) ∙ formula_twice (value_of full) after f

  pub trigger_turns : (t : Trigger) → put_trigger after (put_trigger (value_of raw) t) ≡ put_trigger (value_of full) (put_trigger after t)
  trigger_turns t = sym (trigger_twice after (value_of raw) t) ∙ (λ i. put_trigger (λ y. turns y i) t) ∙ trigger_twice (value_of full) after t

  pub formulas_turn : (fs : List Formula) → map (put_formula after) (map (put_formula (value_of raw)) fs)
      ≡ map (put_formula (value_of full)) (map (put_formula after) fs)
  formulas_turn [] = refl
  formulas_turn (f ∷ fs) = (λ i. formula_turns f i ∷ formulas_turn fs i)

-- the only match binds each variable to the argument in its place
pub matched : (g l : LiteralOf Term) → same_frame g l ≡ true → g.annots ≡ [] → Left l.args [] g.args → matches g l [] ≡ bound_to g.args l.args ∷ []
matched g l f b left =
    let same = third (same_sign g.neg l.neg) (bytes_eq g.functor l.functor) (eqb (length g.args) (length l.args)) f in
    ap (λ z. cond z (on_unified (annots g.annots l.annots) (unified [] (asks g.args l.args []))) []) f
    ∙ ap (λ ps. on_unified (annots ps l.annots) (unified [] (asks g.args l.args []))) b
    ∙ ap (on_unified (annots [] l.annots)) (comes_to g.args l.args (eqb-true (length g.args) (length l.args) same) left)

-- ---- means under what is still to be put into a trigger

bare_nil : (ts : List Term) → is_bare ts ≡ true → ts ≡ []
bare_nil [] e = refl
bare_nil (t ∷ more) e = absurd (false≢true e)

module _ (g l : LiteralOf Term) (own : List Pair) (rest : List (List Pair)) (e : stands_apart g l (own ∷ rest) ≡ true) where
  parts : (same_frame g l ≡ true) × (is_bare g.annots ≡ true) × (are_apart l.args (own ∷ rest) g.args ≡ true)
  parts = all_three (same_frame g l) (is_bare g.annots) (are_apart l.args (own ∷ rest) g.args) e

  lengths : length g.args ≡ length l.args
  lengths = eqb-true (length g.args) (length l.args)
      (third (same_sign g.neg l.neg) (bytes_eq g.functor l.functor) (eqb (length g.args) (length l.args)) parts.0)

  pub raw_match : matches g l [] ≡ bound_to g.args l.args ∷ []
  raw_match = matched g l parts.0 (bare_nil g.annots parts.1) (left_raw l.args own rest g.args parts.2)

  pub full_match : matches g (put_literal (value_in own rest) l) [] ≡ bound_to g.args (map (put (value_in own rest)) l.args) ∷ []
  full_match =
      matched g (put_literal (value_in own rest) l)
      (ap (λ n. same_sign g.neg l.neg && bytes_eq g.functor l.functor && eqb (length g.args) n) (length-map l.args (put (value_in own rest))) ∙ parts.0)
      (bare_nil g.annots parts.1) (left_put l.args own rest g.args parts.2)

  pub means_turn : (m : Means) → put_means (value_in own rest) m ≡ m
      → put_means (value_in own rest) (put_means (value_of (bound_to g.args l.args)) m)
      ≡ applied_means (bound_to g.args (map (put (value_in own rest)) l.args)) m
  means_turn m still =
      (λ i. record {
        trigger = trigger_turns g.args l.args own rest lengths parts.2 m.trigger i;
        body = formulas_turn g.args l.args own rest lengths parts.2 m.body i;
      })
      ∙ ap (put_means (value_of (bound_to g.args (map (put (value_in own rest)) l.args)))) still
