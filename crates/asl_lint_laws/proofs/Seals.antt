-- The variables of a sealed term have no number.
use Rattle.std.proofs.Common.{◌≡◌, ◌<◌, ◌+◌, ◌||◌, ℕ, Bool, true, false, not, cond, List, [], ◌∷◌, ◌++◌, map, length, Option, Some, None, unwrap_or, refl, sym, ap, ◌∙◌, subst, arith}
use Rattle.std.proofs.lemmas.Bool.{false≢true, lt-ltb}
use Rattle.std.specs.List.{AllByRecursion, list_any, position, position_or_len}
use Rattle.std.specs.Option.{option_map}
use Rattle.asl_term.specs.declared.syntax.Var.{Var}
use Rattle.asl_term.specs.declared.syntax.Term.{Term}
use Rattle.asl_term.specs.declared.syntax.Term.TheVariants as term
use Rattle.asl_term.specs.Trees.{same_var}
use Rattle.asl_term.specs.Variables.{any, occurs, occurs_step, joined, vars, vars_step, with_var, noted, variables}
use Rattle.asl_term.proofs.Same.{same_var_true}
use Rattle.asl_term.proofs.Terms.{OfTail, by_cases, fold_num, fold_str, fold_var, fold_lit, fold_list, fold_op}
use Rattle.asl_unify.specs.inner.Costs.{weight, weight_step}
use Rattle.asl_unify.specs.Sealed.{place, named, sealed_var, sealed}
use Rattle.asl_lint_laws.specs.Fresh.{late, TermsBelow}
use Rattle.asl_lint_laws.proofs.Counts.{with_terms_weigh}
use Rattle.asl_lint_laws.proofs.Places.{none_inside}

-- ---- lists of variables

module _ {A : Type 0} (f : A → Bool) where
  any_front : (xs ys : List A) → list_any f xs ≡ true → list_any f (xs ++ ys) ≡ true
  any_front [] ys e = absurd (false≢true e)
  any_front (x ∷ xs) ys e = go (f x) e (any_front xs ys) where
    go : (b : Bool) → (b || list_any f xs) ≡ true → (list_any f xs ≡ true → list_any f (xs ++ ys) ≡ true) → (b || list_any f (xs ++ ys)) ≡ true
    go true e more = refl
    go false e more = more e

  any_back : (xs ys : List A) → list_any f ys ≡ true → list_any f (xs ++ ys) ≡ true
  any_back [] ys e = e
  any_back (x ∷ xs) ys e = go (f x) (any_back xs ys e) where
    go : (b : Bool) → list_any f (xs ++ ys) ≡ true → (b || list_any f (xs ++ ys)) ≡ true
    go true e = refl
    go false e = e

  -- what stands in a list has a place there
  placed : (xs : List A) → list_any f xs ≡ true → position_or_len f xs < length xs
  placed [] e = absurd (false≢true e)
  placed (x ∷ xs) e = go (f x) e (placed xs) where
    go : (b : Bool) → (b || list_any f xs) ≡ true → (list_any f xs ≡ true → position_or_len f xs < length xs)
        → cond (not b) (1 + position_or_len f xs) 0 < length (x ∷ xs)
    go true e more = omega arith
    go false e more = let m = more e in omega (arith, m)

  at_place : (xs : List A) → list_any f xs ≡ true → position f xs ≡ Some (position_or_len f xs)
  at_place xs e = ap (λ b. cond b (Some (position_or_len f xs)) None) (lt-ltb (position_or_len f xs) (length xs) (placed xs e))

module _ (x : Var) where
  abbrev is_it : Var → Bool
  is_it y = same_var y x

  abbrev Stands : List Var → Type 0
  Stands found = list_any is_it found ≡ true

  stays_with : (found : List Var) (v : Var) → Stands found → Stands (with_var found v)
  stays_with found v e = go (list_any (λ y. same_var y v) found) where
    go : (b : Bool) → Stands (cond b found (found ++ v ∷ []))
    go true = e
    go false = any_front is_it found (v ∷ []) e

  new_with : (found : List Var) (v : Var) → same_var v x ≡ true → Stands (with_var found v)
  new_with found v e = go (list_any (λ y. same_var y v) found) refl where
    go : (b : Bool) → list_any (λ y. same_var y v) found ≡ b → Stands (cond b found (found ++ v ∷ []))
    go true d = subst (λ z. list_any (λ y. same_var y z) found ≡ true) (same_var_true v x e) d
    go false d = any_back is_it found (v ∷ []) (ap (λ b. b || false) e)

  stays_noted : (found xs : List Var) → Stands found → Stands (noted found xs)
  stays_noted found [] e = e
  stays_noted found (v ∷ xs) e = stays_noted (with_var found v) xs (stays_with found v e)

  new_noted : (found xs : List Var) → Stands xs → Stands (noted found xs)
  new_noted found [] e = absurd (false≢true e)
  new_noted found (v ∷ xs) e = go (same_var v x) refl e (new_noted (with_var found v) xs) where
    go : (b : Bool) → same_var v x ≡ b → (b || list_any is_it xs) ≡ true → (Stands xs → Stands (noted (with_var found v) xs)) → Stands (noted (with_var found v) xs)
    go true d e more = stays_noted (with_var found v) xs (new_with found v d)
    go false d e more = more e

  -- ---- the variables of a term

  abbrev Listed : Term → Type 0
  Listed t = occurs x t ≡ true → Stands (vars t)

  either : (a b : Bool) (xs ys : List Var) → (a ≡ true → Stands xs) → (b ≡ true → Stands ys) → (a || b) ≡ true → Stands (xs ++ ys)
  either true b xs ys f g e = any_front is_it xs ys (f refl)
  either false b xs ys f g e = any_back is_it xs ys (g e)

  all_listed : (ts : List Term) → AllByRecursion Listed ts → any (map (occurs x) ts) ≡ true → Stands (joined (map vars ts))
  all_listed [] a e = absurd (false≢true e)
  all_listed (t ∷ ts) a e = either (occurs x t) (any (map (occurs x) ts)) (vars t) (joined (map vars ts)) a.0 (all_listed ts a.1) e

  end_listed : (t : Option Term) → OfTail Listed t → unwrap_or (option_map (occurs x) t) false ≡ true → Stands (unwrap_or (option_map vars t) [])
  end_listed None a e = absurd (false≢true e)
  end_listed (Some t) a e = a e

  listed : (t : Term) → Listed t
  listed = by_cases Listed (record {
    at_num = λ n e. absurd (false≢true (sym (fold_num Bool (occurs_step x) n) ∙ e));
    at_str = λ b e. absurd (false≢true (sym (fold_str Bool (occurs_step x) b) ∙ e));
    at_var = λ y e. ap (list_any is_it) (fold_var (List Var) vars_step y) ∙ ap (λ b. b || false) (sym (fold_var Bool (occurs_step x) y) ∙ e);
    at_lit = λ l args annots e.
        ap (list_any is_it) (fold_lit (List Var) vars_step l)
        ∙ either (any (map (occurs x) l.args)) (any (map (occurs x) l.annots)) (joined (map vars l.args)) (joined (map vars l.annots))
        (all_listed l.args args) (all_listed l.annots annots) (sym (fold_lit Bool (occurs_step x) l) ∙ e);
    at_list = λ l items tail e.
        ap (list_any is_it) (fold_list (List Var) vars_step l)
        ∙ either (any (map (occurs x) l.items)) (unwrap_or (option_map (occurs x) l.tail) false) (joined (map vars l.items)) (unwrap_or (option_map vars l.tail) [])
        (all_listed l.items items) (end_listed l.tail tail) (sym (fold_list Bool (occurs_step x) l) ∙ e);
    at_op = λ a left right e.
        ap (list_any is_it) (fold_op (List Var) vars_step a)
        ∙ either (occurs x a.left) (occurs x a.right) (vars a.left) (vars a.right) left right (sym (fold_op Bool (occurs_step x) a) ∙ e);
  })

-- ---- sealed

named_late : (o : Option ℕ) (k : ℕ) (x : Var) → o ≡ Some k → late 1 (named o x) ≡ 0
named_late None k x e = cc
named_late (Some j) k x e = refl

sealed_late : (t : Term) (x : Var) → occurs x t ≡ true → weight (late 1) (term.Var (sealed_var (variables t) x)) ≡ 0
sealed_late t x o =
    fold_var ℕ (weight_step (late 1)) (sealed_var (variables t) x)
    ∙ named_late (place (variables t) x) _ x (at_place (λ y. same_var y x) (variables t) (new_noted x [] (vars t) (listed x t o)))

pub sealed_below : (t : Term) → weight (late 1) (sealed t) ≡ 0
sealed_below t =
    with_terms_weigh (late 1) (λ v. term.Var (sealed_var (variables t) v)) t
    ∙ none_inside (λ v. weight (late 1) (term.Var (sealed_var (variables t) v))) t (sealed_late t)

pub content_below : (t : Term) → TermsBelow 1 (sealed t ∷ [])
content_below t = let one = sealed_below t in omega (arith, one)
