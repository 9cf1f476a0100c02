-- In a term without variables no substitution makes one.
use Rattle.std.proofs.Common.{◌≡◌, ℕ, Bool, true, false, ◌&&◌, List, [], ◌∷◌, map, Option, Some, None, refl, sym, ◌∙◌, arith}
use Rattle.std.specs.List.{AllByRecursion}
use Rattle.std.specs.Option.{option_map}
use Rattle.std.proofs.lemmas.Bool.{false≢true}
use Rattle.asl_term.specs.declared.syntax.Var.{Var}
use Rattle.asl_term.specs.declared.syntax.Term.{Term}
use Rattle.asl_term.specs.declared.syntax.Term.TheVariants as term
use Rattle.asl_term.specs.Trees.{all, or_true, or_zero, is_ground, ground_step}
use Rattle.asl_term.specs.Variables.{occurs}
use Rattle.asl_term.proofs.Terms.{OfTail, by_cases, fold_num, fold_str, fold_var, fold_lit, fold_list, fold_op}
use Rattle.asl_unify.specs.declared.subst.Pair.{Pair}
use Rattle.asl_unify.specs.Puts.{apply, value_of}
use Rattle.asl_unify.specs.inner.Costs.{total, weight, weight_step, places}
use Rattle.asl_unify.proofs.General.{and_true}
use Rattle.asl_unify.proofs.Meets.{occurs-met}

module _ (f : Var → ℕ) where
  abbrev Weightless : Term → Type 0
  Weightless t = is_ground t ≡ true → weight f t ≡ 0

  all_weightless : (ts : List Term) → AllByRecursion Weightless ts → all (map is_ground ts) ≡ true → total (map (weight f) ts) ≡ 0
  all_weightless [] a e = refl
  all_weightless (t ∷ ts) a e =
      let both = and_true (is_ground t) (all (map is_ground ts)) e in
      let first = a.0 both.0 in
      let others = all_weightless ts a.1 both.1 in omega (arith, first, others)

  tail_weightless : (t : Option Term) → OfTail Weightless t → or_true (option_map is_ground t) ≡ true → or_zero (option_map (weight f) t) ≡ 0
  tail_weightless None a e = refl
  tail_weightless (Some t) a e = a e

  ground_weightless : (t : Term) → is_ground t ≡ true → weight f t ≡ 0
  ground_weightless = by_cases Weightless (record {
    at_num = λ n e. fold_num ℕ (weight_step f) n;
    at_str = λ b e. fold_str ℕ (weight_step f) b;
    at_var = λ v e. absurd (false≢true (sym (fold_var Bool ground_step v) ∙ e));
    at_lit = λ l args annots e.
        let both = and_true (all (map is_ground l.args)) (all (map is_ground l.annots)) (sym (fold_lit Bool ground_step l) ∙ e) in
        let whole = fold_lit ℕ (weight_step f) l in
        let first = all_weightless l.args args both.0 in
        let others = all_weightless l.annots annots both.1 in omega (arith, whole, first, others);
    at_list = λ l items tail e.
        let both = and_true (all (map is_ground l.items)) (or_true (option_map is_ground l.tail)) (sym (fold_list Bool ground_step l) ∙ e) in
        let whole = fold_list ℕ (weight_step f) l in
        let first = all_weightless l.items items both.0 in
        let others = tail_weightless l.tail tail both.1 in omega (arith, whole, first, others);
    at_op = λ a left right e.
        let both = and_true (is_ground a.left) (is_ground a.right) (sym (fold_op Bool ground_step a) ∙ e) in
        let whole = fold_op ℕ (weight_step f) a in
        let first = left both.0 in
        let others = right both.1 in omega (arith, whole, first, others);
  })

-- no variable stands in what a substitution makes of a term without variables
pub closed_free : (x : Var) (s : List Pair) (t : Term) → is_ground t ≡ true → occurs x (apply s t) ≡ false
closed_free x s t e = occurs-met x s t false (ground_weightless (λ y. places x (value_of s y)) t e)

-- whether a list has no variable is told by its items and its tail
pub ground_list : (xs : List Term) (t : Option Term) → is_ground (term.List (record { items = xs; tail = t })) ≡ (all (map is_ground xs) && or_true (option_map is_ground t))
ground_list xs t = fold_list Bool ground_step (record { items = xs; tail = t })
