-- Where variables count nothing: other counts, other variables, and terms in place of variables.
use Rattle.std.proofs.Common.{◌≡◌, ℕ, ◌+◌, Bool, true, false, cond, List, [], ◌∷◌, map, Option, Some, None, refl, sym, ap, ◌∙◌, arith}
use Rattle.std.specs.List.{AllByRecursion}
use Rattle.std.specs.Option.{option_map}
use Rattle.asl_term.specs.declared.syntax.Var.{Var}
use Rattle.asl_term.specs.declared.syntax.Term.{Term}
use Rattle.asl_term.specs.declared.syntax.Term.TheVariants as term
use Rattle.asl_term.specs.Trees.{or_zero, same_var, with_terms, with_terms_step}
use Rattle.asl_term.proofs.Terms.{OfTail, by_cases, fold_num, fold_str, fold_var, fold_lit, fold_list, fold_op, map_literal, map_listing, map_arith}
use Rattle.asl_unify.specs.declared.subst.Pair.{Pair}
use Rattle.asl_unify.specs.inner.Costs.{weight, weight_step}
use Rattle.asl_unify.specs.Puts.{put, only, with_pair, with_pairs, value_of, apply}
use Rattle.asl_unify.proofs.Costs.{weight-put}
use Rattle.asl_lint_laws.specs.Fresh.{terms_count, pairs_count}

-- ---- what counts nothing by f counts nothing by g

module _ (f g : Var → ℕ) (i : (x : Var) → f x ≡ 0 → g x ≡ 0) where
  abbrev Less : Term → Type 0
  Less t = weight f t ≡ 0 → weight g t ≡ 0

  all_less : (ts : List Term) → AllByRecursion Less ts → terms_count f ts ≡ 0 → terms_count g ts ≡ 0
  all_less [] a e = refl
  all_less (t ∷ ts) a e =
      let one = a.0 (omega (arith, e)) in
      let more = all_less ts a.1 (omega (arith, e)) in omega (arith, one, more)

  end_less : (t : Option Term) → OfTail Less t → or_zero (option_map (weight f) t) ≡ 0 → or_zero (option_map (weight g) t) ≡ 0
  end_less None a e = refl
  end_less (Some t) a e = a e

  pub less : (t : Term) → Less t
  less = by_cases Less (record {
    at_num = λ n e. fold_num ℕ (weight_step g) n;
    at_str = λ b e. fold_str ℕ (weight_step g) b;
    at_var = λ v e. fold_var ℕ (weight_step g) v ∙ i v (sym (fold_var ℕ (weight_step f) v) ∙ e);
    at_lit = λ l args annots e.
        let d = fold_lit ℕ (weight_step f) l in
        let one = all_less l.args args (omega (arith, d, e)) in
        let two = all_less l.annots annots (omega (arith, d, e)) in
        let c = fold_lit ℕ (weight_step g) l in omega (arith, one, two, c);
    at_list = λ l items tail e.
        let d = fold_list ℕ (weight_step f) l in
        let one = all_less l.items items (omega (arith, d, e)) in
        let two = end_less l.tail tail (omega (arith, d, e)) in
        let c = fold_list ℕ (weight_step g) l in omega (arith, one, two, c);
    at_op = λ a left right e.
        let d = fold_op ℕ (weight_step f) a in
        let one = left (omega (arith, d, e)) in
        let two = right (omega (arith, d, e)) in
        let c = fold_op ℕ (weight_step g) a in omega (arith, one, two, c);
  })

  all_terms : (ts : List Term) → AllByRecursion Less ts
  all_terms [] = tt
  all_terms (t ∷ ts) = (less t, all_terms ts)

  pub terms_less : (ts : List Term) → terms_count f ts ≡ 0 → terms_count g ts ≡ 0
  terms_less ts e = all_less ts (all_terms ts) e

  pub pairs_less : (s : List Pair) → pairs_count f s ≡ 0 → pairs_count g s ≡ 0
  pairs_less [] e = refl
  pairs_less (p ∷ s) e =
      let one = i p.var (omega (arith, e)) in
      let two = less p.term (omega (arith, e)) in
      let more = pairs_less s (omega (arith, e)) in omega (arith, one, two, more)

-- ---- with terms in place of variables

module _ (f : Var → ℕ) (h : Var → Term) where
  abbrev Weighs : Term → Type 0
  Weighs t = weight f (with_terms h t) ≡ weight (λ x. weight f (h x)) t

  all_weigh : (ts : List Term) → AllByRecursion Weighs ts → terms_count f (map (with_terms h) ts) ≡ terms_count (λ x. weight f (h x)) ts
  all_weigh [] a = refl
  all_weigh (t ∷ ts) a = let one = a.0 in let more = all_weigh ts a.1 in (λ i. one i + more i)

  end_weighs : (t : Option Term) → OfTail Weighs t
      → or_zero (option_map (weight f) (option_map (with_terms h) t)) ≡ or_zero (option_map (weight (λ x. weight f (h x))) t)
  end_weighs None a = refl
  end_weighs (Some t) a = a

  pub with_terms_weigh : (t : Term) → Weighs t
  with_terms_weigh = by_cases Weighs (record {
    at_num = λ n. ap (weight f) (fold_num Term (with_terms_step h) n) ∙ fold_num ℕ (weight_step f) n ∙ sym (fold_num ℕ (weight_step (λ x. weight f (h x))) n);
    at_str = λ b. ap (weight f) (fold_str Term (with_terms_step h) b) ∙ fold_str ℕ (weight_step f) b ∙ sym (fold_str ℕ (weight_step (λ x. weight f (h x))) b);
    at_var = λ v. ap (weight f) (fold_var Term (with_terms_step h) v) ∙ sym (fold_var ℕ (weight_step (λ x. weight f (h x))) v);
    at_lit = λ l args annots.
        ap (weight f) (fold_lit Term (with_terms_step h) l) ∙ fold_lit ℕ (weight_step f) (map_literal (with_terms h) l)
        ∙ (λ i. all_weigh l.args args i + all_weigh l.annots annots i)
        ∙ sym (fold_lit ℕ (weight_step (λ x. weight f (h x))) l);
    at_list = λ l items tail.
        ap (weight f) (fold_list Term (with_terms_step h) l) ∙ fold_list ℕ (weight_step f) (map_listing (with_terms h) l)
        ∙ (λ i. all_weigh l.items items i + end_weighs l.tail tail i)
        ∙ sym (fold_list ℕ (weight_step (λ x. weight f (h x))) l);
    at_op = λ a left right.
        ap (weight f) (fold_op Term (with_terms_step h) a) ∙ fold_op ℕ (weight_step f) (map_arith (with_terms h) a)
        ∙ (λ i. left i + right i)
        ∙ sym (fold_op ℕ (weight_step (λ x. weight f (h x))) a);
  })

-- ---- what a substitution gives

module _ (f : Var → ℕ) where
  abbrev GivesNone : (Var → Term) → Type 0
  GivesNone h = (x : Var) → f x ≡ 0 → weight f (h x) ≡ 0

  var_none : (x : Var) → f x ≡ 0 → weight f (term.Var x) ≡ 0
  var_none x e = fold_var ℕ (weight_step f) x ∙ e

  pub put_none : (h : Var → Term) → GivesNone h → (t : Term) → weight f t ≡ 0 → weight f (put h t) ≡ 0
  put_none h k t e = weight-put f h t ∙ less f (λ x. weight f (h x)) k t e

  pair_none : (p : Pair) (h : Var → Term) → weight f p.term ≡ 0 → GivesNone h → GivesNone (with_pair p h)
  pair_none p h e k x z = put_none (only p.var (put h p.term)) at (h x) (k x z) where
    at : GivesNone (only p.var (put h p.term))
    at y w = go (same_var y p.var) where
      go : (b : Bool) → weight f (cond b (put h p.term) (term.Var y)) ≡ 0
      go true = put_none h k p.term e
      go false = var_none y w

  pub values_none : (s : List Pair) (h : Var → Term) → pairs_count f s ≡ 0 → GivesNone h → GivesNone (with_pairs s h)
  values_none [] h e k = k
  values_none (p ∷ s) h e k = values_none s (with_pair p h) (omega (arith, e)) (pair_none p h (omega (arith, e)) k)

  pub apply_none : (s : List Pair) (t : Term) → pairs_count f s ≡ 0 → weight f t ≡ 0 → weight f (apply s t) ≡ 0
  apply_none s t e d = put_none (value_of s) (values_none s term.Var e var_none) t d

  pub applied_none : (s : List Pair) (ts : List Term) → pairs_count f s ≡ 0 → terms_count f ts ≡ 0 → terms_count f (map (apply s) ts) ≡ 0
  applied_none s [] e d = refl
  applied_none s (t ∷ ts) e d =
      let one = apply_none s t e (omega (arith, d)) in
      let more = applied_none s ts e (omega (arith, d)) in omega (arith, one, more)
