-- What is known of a term without variables.
use Rattle.std.proofs.Common.{◌≡◌, ℤ, ℕ, Bool, true, false, ◌&&◌, List, [], ◌∷◌, map, Option, Some, None, refl, ap, sym, ◌∙◌}
use Rattle.std.specs.List.{AllByRecursion}
use Rattle.std.specs.Option.{option_map}
use Rattle.std.proofs.lemmas.Bool.{false≢true}
use Rattle.asl_term.specs.declared.syntax.Var.{Var}
use Rattle.asl_term.specs.declared.syntax.LiteralOf.{LiteralOf}
use Rattle.asl_term.specs.declared.syntax.ListingOf.{ListingOf}
use Rattle.asl_term.specs.declared.syntax.ArithOf.{ArithOf}
use Rattle.asl_term.specs.declared.syntax.Term.{Term}
use Rattle.asl_term.specs.declared.syntax.Term.TheVariants as term
use Rattle.asl_term.specs.Trees.{all, or_true, is_ground, ground_step, with_terms, with_terms_step}
use Rattle.asl_term.proofs.Terms.{OfTail, by_cases, fold_num, fold_str, fold_var, fold_lit, fold_list, fold_op}

pub ground_num : (n : ℤ) → is_ground (term.Num n) ≡ true
ground_num = fold_num Bool ground_step

pub ground_str : (b : List ℕ) → is_ground (term.Str b) ≡ true
ground_str = fold_str Bool ground_step

pub ground_var : (v : Var) → is_ground (term.Var v) ≡ false
ground_var = fold_var Bool ground_step

pub ground_lit : (l : LiteralOf Term) → is_ground (term.Lit l) ≡ (all (map is_ground l.args) && all (map is_ground l.annots))
ground_lit = fold_lit Bool ground_step

pub ground_list : (l : ListingOf Term) → is_ground (term.List l) ≡ (all (map is_ground l.items) && or_true (option_map is_ground l.tail))
ground_list = fold_list Bool ground_step

pub ground_op : (a : ArithOf Term) → is_ground (term.Op a) ≡ (is_ground a.left && is_ground a.right)
ground_op = fold_op Bool ground_step

both_true : (a b : Bool) → (a && b) ≡ true → (a ≡ true) × (b ≡ true)
both_true true b e = (refl, e)
both_true false b e = absurd (false≢true e)

module _ (h : Var → Term) where
  abbrev Stays : Term → Type 0
  Stays t = is_ground t ≡ true → with_terms h t ≡ t

  all_stay : (ts : List Term) → AllByRecursion Stays ts → all (map is_ground ts) ≡ true → map (with_terms h) ts ≡ ts
  all_stay [] a e = refl
  all_stay (t ∷ ts) a e = let both = both_true (is_ground t) (all (map is_ground ts)) e in (λ i. a.0 both.0 i ∷ all_stay ts a.1 both.1 i)

  tail_stays : (t : Option Term) → OfTail Stays t → or_true (option_map is_ground t) ≡ true → option_map (with_terms h) t ≡ t
  tail_stays None a e = refl
  tail_stays (Some t) a e = ap Some (a e)

  -- a term without variables is unchanged
  pub ground_stays : (t : Term) → is_ground t ≡ true → with_terms h t ≡ t
  ground_stays = by_cases Stays (record {
    at_num = λ n e. fold_num Term (with_terms_step h) n;
    at_str = λ b e. fold_str Term (with_terms_step h) b;
    at_var = λ v e. absurd (false≢true (sym (ground_var v) ∙ e));
    at_lit = λ l args annots e.
        let both = both_true (all (map is_ground l.args)) (all (map is_ground l.annots)) (sym (ground_lit l) ∙ e) in
        fold_lit Term (with_terms_step h) l
        ∙ (λ i. term.Lit (record l { args = all_stay l.args args both.0 i; annots = all_stay l.annots annots both.1 i }));
    at_list = λ l items tail e.
        let both = both_true (all (map is_ground l.items)) (or_true (option_map is_ground l.tail)) (sym (ground_list l) ∙ e) in
        fold_list Term (with_terms_step h) l
        ∙ (λ i. term.List (record { items = all_stay l.items items both.0 i; tail = tail_stays l.tail tail both.1 i }));
    at_op = λ a left right e.
        let both = both_true (is_ground a.left) (is_ground a.right) (sym (ground_op a) ∙ e) in
        fold_op Term (with_terms_step h) a
        ∙ (λ i. term.Op (record a { left = left both.0 i; right = right both.1 i }));
  })

  every : (ts : List Term) → AllByRecursion Stays ts
  every [] = tt
  every (t ∷ ts) = (ground_stays t, every ts)

  pub all_ground_stay : (ts : List Term) → all (map is_ground ts) ≡ true → map (with_terms h) ts ≡ ts
  all_ground_stay ts e = all_stay ts (every ts) e
