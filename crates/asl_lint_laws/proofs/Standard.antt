-- The internal actions of formulas bring no variables.
use Rattle.std.proofs.Common.{◌≡◌, ℕ, zero, suc, ◌-◌, ltb, ℤ, pos, negsuc, Bool, true, false, cond, List, [], ◌∷◌, ◌++◌, map, length, take, reverse, Option, Some, None, refl, sym, ap, ◌∙◌, subst, arith, inl, inr}
use Rattle.std.specs.Prelude.{Ok, Err, unwrap_or}
use Rattle.std.specs.List.{flat_map, slice_get}
use Rattle.std.specs.Option.{option_map, option_and_then}
use Rattle.std.proofs.lemmas.List.{reverse-append}
use Rattle.asl_term.specs.declared.syntax.Var.{Var}
use Rattle.asl_term.specs.declared.syntax.Term.{Term}
use Rattle.asl_term.specs.declared.syntax.Term.TheVariants as term
use Rattle.asl_term.specs.declared.syntax.Term.TheOpen.{Term-F}
use Rattle.asl_term.specs.declared.syntax.Term.TheOpen as layer
use Rattle.asl_term.specs.Layers.{made}
use Rattle.asl_term.specs.Trees.{all}
use Rattle.asl_term.proofs.Terms.{fold_num, fold_str, fold_lit, fold_list, out_made}
use Rattle.asl_term_actions.specs.declared.action.Action.{Action}
use Rattle.asl_term_actions.specs.declared.action.Action.TheVariants as action
use Rattle.asl_term_actions.specs.declared.action.Look.TheVariants as look
use Rattle.asl_term_actions.specs.declared.action.Test.{Test}
use Rattle.asl_term_actions.specs.Actions.{named}
use Rattle.asl_unify.specs.declared.subst.Pair.{Pair}
use Rattle.asl_unify.specs.inner.Costs.{weight, weight_step}
use Rattle.asl_unify.specs.Compare.{ask, Outcome, Unified, Failed}
use Rattle.asl_unify.specs.Matches.{on_unified}
use Rattle.asl_unify.specs.Unified.{unified}
use Rattle.asl_unify.specs.Limits.{within}
use Rattle.asl_unify.specs.Puts.{apply}
use Rattle.asl_unify.specs.Settling.{Settled, each, settle, number_of}
use Rattle.asl_unify.proofs.Views.{by_layers}
use Rattle.asl_resolve.specs.declared.actions.Inner.TheVariants.{Sols, TermLimit}
use Rattle.asl_resolve.specs.Solves.{Among}
use Rattle.asl_stdlib.specs.declared.numbers.Extreme.{Extreme}
use Rattle.asl_stdlib.specs.declared.numbers.Extreme.TheVariants.{Least, Greatest}
use Rattle.asl_stdlib.specs.Kinds.{items_in, items_of, is_list, unless_open}
use Rattle.asl_stdlib.specs.Findings.{Finding, Holds, Gives, nothing, gives, each_met, solutions}
use Rattle.asl_stdlib.specs.Rows.{list_term, atom_term, test_row, my_name_row, member_row, length_of, length_row, item_at, nth_row, reverse_row, best_of, best_row, plain_text, joined, gives_joined, concat_row}
use Rattle.asl_stdlib.specs.Solving.{found_by, on_settled, solve}
use Rattle.asl_lint_laws.specs.Fresh.{late, terms_count, pairs_count, StandardBelow}
use Rattle.asl_lint_laws.proofs.Counts.{applied_none}
use Rattle.asl_lint_laws.proofs.FreshSettles.{terms_stay}
use Rattle.asl_lint_laws.proofs.FreshMatching.{unified_keeps}

module _ (f : Var → ℕ) where
  abbrev FindingNone : Finding → Type 0
  FindingNone (Holds b) = Unit {0}
  FindingNone (Gives x results) = (weight f x ≡ 0) × (terms_count f results ≡ 0)

  abbrev TermNone : Option Term → Type 0
  TermNone None = Unit {0}
  TermNone (Some t) = weight f t ≡ 0

  abbrev ItemsNone : Option (List Term) → Type 0
  ItemsNone None = Unit {0}
  ItemsNone (Some ts) = terms_count f ts ≡ 0

  -- ---- lists of terms

  append_none : (xs ys : List Term) → terms_count f xs ≡ 0 → terms_count f ys ≡ 0 → terms_count f (xs ++ ys) ≡ 0
  append_none [] ys e d = d
  append_none (x ∷ xs) ys e d = let more = append_none xs ys (omega (arith, e)) d in omega (arith, e, more)

  take_none : (n : ℕ) (xs : List Term) → terms_count f xs ≡ 0 → terms_count f (take n xs) ≡ 0
  take_none zero xs e = refl
  take_none (suc n) [] e = refl
  take_none (suc n) (x ∷ xs) e = let more = take_none n xs (omega (arith, e)) in omega (arith, e, more)

  get_none : (xs : List Term) (n : ℕ) → terms_count f xs ≡ 0 → TermNone (slice_get xs n)
  get_none [] n e = tt
  get_none (x ∷ xs) zero e = omega (arith, e)
  get_none (x ∷ xs) (suc n) e = get_none xs n (omega (arith, e))

  reverse_none : (xs : List Term) → terms_count f xs ≡ 0 → terms_count f (reverse xs) ≡ 0
  reverse_none [] e = refl
  reverse_none (x ∷ xs) e =
      ap (terms_count f) (reverse-append (x ∷ []) xs)
      ∙ append_none (reverse xs) (reverse (x ∷ [])) (reverse_none xs (omega (arith, e))) (omega (arith, e))

  items_at : (y : Term-F Term) → weight f (made y) ≡ 0 → ItemsNone (items_in y)
  items_at (layer.List l) e = go l.tail where
    items : terms_count f l.items ≡ 0
    items = let d = fold_list ℕ (weight_step f) l in omega (arith, d, e)

    go : (t : Option Term) → ItemsNone (unless_open l.items t)
    go None = items
    go (Some t) = tt
  items_at _ e = tt

  items_none : (t : Term) → weight f t ≡ 0 → ItemsNone (items_of t)
  items_none = by_layers (λ t. weight f t ≡ 0 → ItemsNone (items_of t)) (λ y e. subst ItemsNone (sym (ap items_in (out_made y))) (items_at y e))

  items_or_none : (t : Term) → weight f t ≡ 0 → terms_count f (unwrap_or (items_of t) []) ≡ 0
  items_or_none t e = go (items_of t) (items_none t e) where
    go : (o : Option (List Term)) → ItemsNone o → terms_count f (unwrap_or o []) ≡ 0
    go None d = refl
    go (Some ts) d = d

  all_items_none : (ts : List Term) → terms_count f ts ≡ 0 → terms_count f (flat_map (λ t. unwrap_or (items_of t) []) ts) ≡ 0
  all_items_none [] e = refl
  all_items_none (t ∷ ts) e =
      append_none (unwrap_or (items_of t) []) (flat_map (λ t. unwrap_or (items_of t) []) ts) (items_or_none t (omega (arith, e)))
      (all_items_none ts (omega (arith, e)))

  list_none : (ts : List Term) → terms_count f ts ≡ 0 → weight f (list_term ts) ≡ 0
  list_none ts e = let d = fold_list ℕ (weight_step f) (record { items = ts; tail = None }) in omega (arith, d, e)

  atom_none : (name : List ℕ) → weight f (atom_term name) ≡ 0
  atom_none name = fold_lit ℕ (weight_step f) (record { neg = false; functor = name; args = []; annots = [] })

  number_none : (n : ℤ) → weight f (term.Num n) ≡ 0
  number_none n = fold_num ℕ (weight_step f) n

  -- ---- what is found

  gives_none : (x : Term) (o : Option Term) → weight f x ≡ 0 → TermNone o → FindingNone (gives x o)
  gives_none x None e d = tt
  gives_none x (Some r) e d = (e, omega (arith, d))

  numbers_none : {A : Type 0} (to : A → ℤ) (o : Option A) → TermNone (option_map (λ k. term.Num (to k)) o)
  numbers_none to None = tt
  numbers_none to (Some k) = number_none (to k)

  member_none : (args : List Term) → terms_count f args ≡ 0 → FindingNone (member_row args)
  member_none (x ∷ l ∷ []) e = (omega (arith, e), items_or_none l (omega (arith, e)))
  member_none _ e = tt

  length_none : (args : List Term) → terms_count f args ≡ 0 → FindingNone (length_row args)
  length_none (l ∷ n ∷ []) e = gives_none n (option_map (λ k. term.Num (pos k)) (length_of l)) (omega (arith, e)) (numbers_none (λ k. pos k) (length_of l))
  length_none _ e = tt

  nth_none : (args : List Term) → terms_count f args ≡ 0 → FindingNone (nth_row args)
  nth_none (i ∷ l ∷ x ∷ []) e =
      gives_none x (option_and_then (λ k. option_and_then (λ items. item_at items k) (items_of l)) (number_of i)) (omega (arith, e))
      (go (number_of i) (items_of l) (items_none l (omega (arith, e))))
    where
      at : (k : ℤ) (ts : List Term) → terms_count f ts ≡ 0 → TermNone (item_at ts k)
      at (pos k) ts d = get_none ts k d
      at (negsuc k) ts d = tt

      go : (n : Option ℤ) (o : Option (List Term)) → ItemsNone o → TermNone (option_and_then (λ k. option_and_then (λ items. item_at items k) o) n)
      go None o d = tt
      go (Some k) None d = tt
      go (Some k) (Some ts) d = at k ts d
  nth_none _ e = tt

  reversed_none : (args : List Term) → terms_count f args ≡ 0 → FindingNone (reverse_row args)
  reversed_none (l ∷ r ∷ []) e =
      gives_none r (option_map (λ items. list_term (reverse items)) (items_of l)) (omega (arith, e)) (go (items_of l) (items_none l (omega (arith, e))))
    where
      go : (o : Option (List Term)) → ItemsNone o → TermNone (option_map (λ items. list_term (reverse items)) o)
      go None d = tt
      go (Some ts) d = list_none (reverse ts) (reverse_none ts d)
  reversed_none _ e = tt

  best_none : (x : Extreme) (args : List Term) → terms_count f args ≡ 0 → FindingNone (best_row x args)
  best_none x (l ∷ y ∷ []) e =
      gives_none y (option_map term.Num (option_and_then (best_of x) (items_of l))) (omega (arith, e))
      (numbers_none (λ n. n) (option_and_then (best_of x) (items_of l)))
  best_none x _ e = tt

  joined_none : (ts : List Term) → terms_count f ts ≡ 0 → weight f (joined ts) ≡ 0
  joined_none ts e = go (all (map is_list ts)) where
    go : (b : Bool) → weight f (cond b (list_term (flat_map (λ t. unwrap_or (items_of t) []) ts)) (term.Str (flat_map plain_text ts))) ≡ 0
    go true = list_none (flat_map (λ t. unwrap_or (items_of t) []) ts) (all_items_none ts e)
    go false = fold_str ℕ (weight_step f) (flat_map plain_text ts)

  concat_none : (args : List Term) → terms_count f args ≡ 0 → FindingNone (concat_row args)
  concat_none args e = go (ltb (length args) 3) where
    last : (o : Option Term) → TermNone o → FindingNone (gives_joined o (take (length args - 1) args))
    last None d = tt
    last (Some r) d = let j = joined_none (take (length args - 1) args) (take_none (length args - 1) args e) in (d, omega (arith, j))

    go : (b : Bool) → FindingNone (cond b nothing (gives_joined (slice_get args (length args - 1)) (take (length args - 1) args)))
    go true = tt
    go false = last (slice_get args (length args - 1)) (get_none args (length args - 1) e)

  test_none : (k : Test) (args : List Term) → FindingNone (test_row k args)
  test_none k (t ∷ []) = tt
  test_none k _ = tt

  name_none : (me : List ℕ) (args : List Term) → terms_count f args ≡ 0 → FindingNone (my_name_row me args)
  name_none me (x ∷ []) e = let a = atom_none me in (omega (arith, e), omega (arith, a))
  name_none me _ e = tt

  found_none : (me : List ℕ) (o : Option Action) (args : List Term) → terms_count f args ≡ 0 → FindingNone (found_by me o args)
  found_none me (Some (action.Looks look.Member)) args e = member_none args e
  found_none me (Some (action.Looks look.Length)) args e = length_none args e
  found_none me (Some (action.Looks look.Nth)) args e = nth_none args e
  found_none me (Some (action.Looks look.Concat)) args e = concat_none args e
  found_none me (Some (action.Looks look.Max)) args e = best_none Greatest args e
  found_none me (Some (action.Looks look.Min)) args e = best_none Least args e
  found_none me (Some (action.Looks look.Reverse)) args e = reversed_none args e
  found_none me (Some (action.Looks look.MyName)) args e = name_none me args e
  found_none me (Some (action.Looks (look.Passes k))) args e = test_none k args
  found_none me other args e = tt

  -- ---- its solutions

  met_none : (x : Term) (s : List Pair) → weight f x ≡ 0 → pairs_count f s ≡ 0 → (results : List Term) → terms_count f results ≡ 0
      → (t : List Pair) → Among t (each_met x results s) → pairs_count f t ≡ 0
  met_none x s e d [] r t h = absurd h
  met_none x s e d (y ∷ ys) r t h = go (unified s (ask x y ∷ [])) refl h (met_none x s e d ys (omega (arith, r)) t) where
    go : (o : Outcome) → unified s (ask x y ∷ []) ≡ o → Among t (on_unified (λ t. t ∷ []) o ++ each_met x ys s)
        → (Among t (each_met x ys s) → pairs_count f t ≡ 0) → pairs_count f t ≡ 0
    go (Unified u) q (inl k) more = ap (pairs_count f) k ∙ unified_keeps f s u (ask x y ∷ []) (omega (arith, e, r)) d q
    go (Unified u) q (inr k) more = more k
    go (Failed z) q k more = more k

  solved_none : (o : Finding) (s t : List Pair) → FindingNone o → pairs_count f s ≡ 0 → Among t (solutions o s) → pairs_count f t ≡ 0
  solved_none (Holds true) s t e d (inl k) = ap (pairs_count f) k ∙ d
  solved_none (Holds true) s t e d (inr k) = absurd k
  solved_none (Holds false) s t e d k = absurd k
  solved_none (Gives x results) s t e d k = met_none x s e.0 d results e.1 t k

  solve_none : (me name : List ℕ) (args : List Term) (s t : List Pair) (ts : List (List Pair)) → terms_count f args ≡ 0 → pairs_count f s ≡ 0
      → solve me name args s ≡ Sols ts → Among t ts → pairs_count f t ≡ 0
  solve_none me name args s t ts e d q k = go (all (map within (map (apply s) args))) q where
    settled : (r : Settled (List Term)) → each (map settle (map (apply s) args)) ≡ r → on_settled me name s r ≡ Sols ts → pairs_count f t ≡ 0
    settled (Ok given) u v =
        let all_of : solutions (found_by me (named name) given) s ≡ ts = cc in
        let none = terms_stay f (map (apply s) args) given u (applied_none f s args d e) in
        solved_none (found_by me (named name) given) s t (found_none me (named name) given none) d (subst (Among t) (sym all_of) k)
    settled (Err x) u v = cc

    go : (b : Bool) → cond b (on_settled me name s (each (map settle (map (apply s) args)))) TermLimit ≡ Sols ts → pairs_count f t ≡ 0
    go true v = settled (each (map settle (map (apply s) args))) refl v
    go false v = cc

pub standard_below : StandardBelow
standard_below me n name args s t ts e d q k = solve_none (late n) me name args s t ts e d q k
