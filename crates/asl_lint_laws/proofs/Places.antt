-- A term none of whose variables counts counts nothing.
use Rattle.std.proofs.Common.{◌≡◌, ◌||◌, ℕ, Bool, true, false, List, [], ◌∷◌, map, Option, Some, None, unwrap_or, refl, ap, ◌∙◌, arith}
use Rattle.std.specs.List.{AllByRecursion}
use Rattle.std.specs.Option.{option_map}
use Rattle.asl_term.specs.declared.syntax.Var.{Var}
use Rattle.asl_term.specs.declared.syntax.Term.{Term}
use Rattle.asl_term.specs.Trees.{or_zero}
use Rattle.asl_term.specs.Variables.{any, occurs, occurs_step}
use Rattle.asl_term.proofs.Same.{same_var_self}
use Rattle.asl_term.proofs.Terms.{OfTail, by_cases, fold_num, fold_str, fold_var, fold_lit, fold_list, fold_op}
use Rattle.asl_unify.specs.inner.Costs.{weight, weight_step}
use Rattle.asl_lint_laws.specs.Fresh.{late, terms_count, TermsBelow}
use Rattle.asl_lint_laws.specs.Written.{AreWritten}
use Rattle.asl_lint_laws.proofs.Ages.{below_late}

or_left : (a b : Bool) → a ≡ true → (a || b) ≡ true
or_left a b e = ap (λ z. z || b) e

or_right : (a b : Bool) → b ≡ true → (a || b) ≡ true
or_right true b e = refl
or_right false b e = e

module _ (f : Var → ℕ) where
  abbrev NoneIn : (Var → Bool) → Type 0
  NoneIn in_it = (x : Var) → in_it x ≡ true → f x ≡ 0

  abbrev Counts : Term → Type 0
  Counts t = NoneIn (λ x. occurs x t) → weight f t ≡ 0

  all_count : (ts : List Term) → AllByRecursion Counts ts → NoneIn (λ x. any (map (occurs x) ts)) → terms_count f ts ≡ 0
  all_count [] a e = refl
  all_count (t ∷ ts) a e =
      let one = a.0 (λ x o. e x (or_left (occurs x t) (any (map (occurs x) ts)) o)) in
      let more = all_count ts a.1 (λ x o. e x (or_right (occurs x t) (any (map (occurs x) ts)) o)) in omega (arith, one, more)

  end_counts : (t : Option Term) → OfTail Counts t → NoneIn (λ x. unwrap_or (option_map (occurs x) t) false) → or_zero (option_map (weight f) t) ≡ 0
  end_counts None a e = refl
  end_counts (Some t) a e = a e

  pub none_inside : (t : Term) → Counts t
  none_inside = by_cases Counts (record {
    at_num = λ n e. fold_num ℕ (weight_step f) n;
    at_str = λ b e. fold_str ℕ (weight_step f) b;
    at_var = λ x e. fold_var ℕ (weight_step f) x ∙ e x (fold_var Bool (occurs_step x) x ∙ same_var_self x);
    at_lit = λ l args annots e.
        let one = all_count l.args args (λ x o. e x (fold_lit Bool (occurs_step x) l ∙ or_left _ _ o)) in
        let two = all_count l.annots annots (λ x o. e x (fold_lit Bool (occurs_step x) l ∙ or_right _ _ o)) in
        fold_lit ℕ (weight_step f) l ∙ omega (arith, one, two);
    at_list = λ l items tail e.
        let one = all_count l.items items (λ x o. e x (fold_list Bool (occurs_step x) l ∙ or_left _ _ o)) in
        let two = end_counts l.tail tail (λ x o. e x (fold_list Bool (occurs_step x) l ∙ or_right _ _ o)) in
        fold_list ℕ (weight_step f) l ∙ omega (arith, one, two);
    at_op = λ a left right e.
        let one = left (λ x o. e x (fold_op Bool (occurs_step x) a ∙ or_left _ _ o)) in
        let two = right (λ x o. e x (fold_op Bool (occurs_step x) a ∙ or_right _ _ o)) in
        fold_op ℕ (weight_step f) a ∙ omega (arith, one, two);
  })

-- as a reader makes terms, their variables have numbers below 1
pub written_below : (ts : List Term) → AreWritten ts → TermsBelow 1 ts
written_below [] w = refl
written_below (t ∷ ts) w =
    let one = none_inside (late 1) t (λ x o. let zero_is = w.0.unnumbered x o in below_late 1 x (omega (arith, zero_is))) in
    let more = written_below ts w.1 in omega (arith, one, more)
