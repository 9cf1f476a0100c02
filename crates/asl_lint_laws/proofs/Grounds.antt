-- A term without variables counts nothing.
use Rattle.std.proofs.Common.{◌≡◌, ℕ, true, List, [], ◌∷◌, map, Option, Some, None, refl, sym, ◌∙◌, arith}
use Rattle.std.proofs.lemmas.Bool.{false≢true}
use Rattle.std.specs.List.{AllByRecursion}
use Rattle.std.specs.Option.{option_map}
use Rattle.asl_term.specs.declared.syntax.Var.{Var}
use Rattle.asl_term.specs.declared.syntax.LiteralOf.{LiteralOf}
use Rattle.asl_term.specs.declared.syntax.Term.{Term}
use Rattle.asl_term.specs.Exprs.{is_ground_literal}
use Rattle.asl_term.specs.Trees.{all, or_true, or_zero, is_ground}
use Rattle.asl_term.proofs.Grounds.{ground_var, ground_lit, ground_list, ground_op}
use Rattle.asl_term.proofs.Terms.{OfTail, by_cases, fold_num, fold_str, fold_lit, fold_list, fold_op}
use Rattle.asl_unify.specs.inner.Costs.{weight, weight_step}
use Rattle.asl_unify.proofs.General.{and_true}
use Rattle.asl_beliefs.proofs.Sound.{ground_parts}
use Rattle.asl_lint_laws.specs.Fresh.{terms_count, literal_count}

module _ (f : Var → ℕ) where
  abbrev Counts : Term → Type 0
  Counts t = is_ground t ≡ true → weight f t ≡ 0

  all_count : (ts : List Term) → AllByRecursion Counts ts → all (map is_ground ts) ≡ true → terms_count f ts ≡ 0
  all_count [] a e = refl
  all_count (t ∷ ts) a e =
      let s = and_true (is_ground t) _ e in
      let one = a.0 s.0 in
      let more = all_count ts a.1 s.1 in omega (arith, one, more)

  end_counts : (t : Option Term) → OfTail Counts t → or_true (option_map is_ground t) ≡ true → or_zero (option_map (weight f) t) ≡ 0
  end_counts None a e = refl
  end_counts (Some t) a e = a e

  pub ground_count : (t : Term) → Counts t
  ground_count = by_cases Counts (record {
    at_num = λ n e. fold_num ℕ (weight_step f) n;
    at_str = λ b e. fold_str ℕ (weight_step f) b;
    at_var = λ x e. absurd (false≢true (sym (ground_var x) ∙ e));
    at_lit = λ l args annots e.
        let s = and_true (all (map is_ground l.args)) _ (sym (ground_lit l) ∙ e) in
        let one = all_count l.args args s.0 in
        let two = all_count l.annots annots s.1 in
        fold_lit ℕ (weight_step f) l ∙ omega (arith, one, two);
    at_list = λ l items tail e.
        let s = and_true (all (map is_ground l.items)) _ (sym (ground_list l) ∙ e) in
        let one = all_count l.items items s.0 in
        let two = end_counts l.tail tail s.1 in
        fold_list ℕ (weight_step f) l ∙ omega (arith, one, two);
    at_op = λ a left right e.
        let s = and_true (is_ground a.left) _ (sym (ground_op a) ∙ e) in
        let one = left s.0 in
        let two = right s.1 in
        fold_op ℕ (weight_step f) a ∙ omega (arith, one, two);
  })

  all_ground : (ts : List Term) → AllByRecursion Counts ts
  all_ground [] = tt
  all_ground (t ∷ ts) = (ground_count t, all_ground ts)

  pub literal_ground : (l : LiteralOf Term) → is_ground_literal l ≡ true → literal_count f l ≡ 0
  literal_ground l e =
      let s = ground_parts l e in
      let one = all_count l.args (all_ground l.args) s.0 in
      let two = all_count l.annots (all_ground l.annots) s.1 in omega (arith, one, two)
