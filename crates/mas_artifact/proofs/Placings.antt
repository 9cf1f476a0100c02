-- What the acts decide that put a thing on a belt.
use Rattle.std.proofs.Common.{◌≡◌, ◌≤◌, ℕ, max, length, Bool, true, false, ◌&&◌, cond, if◌then◌else◌, List, [], ◌∷◌, ◌++◌, map, sum, Option, Some, None, refl, ap, ◌∙◌, codes, arith}
use Rattle.std.specs.List.{AllByRecursion}
use Rattle.std.specs.Option.{option_and_then, option_map}
use Rattle.std.specs.Prelude.{Ok}
use Rattle.std.specs.Result.{result_ok}
use Rattle.std.proofs.lemmas.Bool.{false≢true}
use Rattle.std.proofs.lemmas.List.{map-append}
use Rattle.asl_term.specs.declared.syntax.Expr.TheVariants as expr
use Rattle.asl_term.specs.declared.syntax.LiteralOf.{LiteralOf}
use Rattle.asl_term.specs.declared.syntax.Term.{Term}
use Rattle.asl_term.specs.declared.syntax.Term.TheVariants as term
use Rattle.asl_term.specs.declared.syntax.Var.{Var}
use Rattle.asl_term.specs.Trees.{all, depth, depth_step, greatest, is_ground, size, size_step}
use Rattle.asl_term.proofs.Terms.{fold_var}
use Rattle.asl_unify.specs.declared.subst.Pair.{Pair}
use Rattle.asl_unify.specs.Compare.{Outcome, Unified, Failed, ask, find, same_frame}
use Rattle.asl_unify.specs.Matches.{agreed}
use Rattle.asl_unify.specs.Puts.{IsSubst, put, value_of}
use Rattle.asl_unify.specs.Settling.{Settled, and_then, each, settle, settle_step}
use Rattle.asl_unify.specs.Unified.{unified}
use Rattle.asl_unify.proofs.General.{find-None}
use Rattle.asl_unify.proofs.Laws.{Solves, Solves-back, flat-var, values-solve}
use Rattle.asl_unify.proofs.Unified.{unified_general}
use Rattle.mas_world.specs.declared.facts.Deed.{Deed}
use Rattle.mas_world.specs.Acts.{deed, effect, effects, if_ground, tried}
use Rattle.mas_world.specs.Guards.{first_of, ready, solutions}
use Rattle.mas_world.proofs.Settles.{both}
use Rattle.mas_world.proofs.Sound.{first_of_both, second_of_both}
use Rattle.mas_artifact.specs.Tables.{belt, belt_put, list, named, variable}
use Rattle.mas_artifact.specs.States.{AreKept, belt_facts, row}
use Rattle.mas_artifact.proofs.Entries.{called, entry, entry_is, heard}
use Rattle.mas_artifact.proofs.Exchanges.{effect_is, exchange}
use Rattle.mas_artifact.proofs.Grounds.{put_again, put_ground, still_ground}
use Rattle.mas_artifact.proofs.Orders.{AreFresh, pairs, same_number, variables_agree}
use Rattle.mas_artifact.proofs.Rows.{fact_ground, kept_is, put_row, ready_row, row_fact, row_is, row_kept, settled_row, within_row}
use Rattle.mas_artifact.proofs.Settled.{sizes_more}
use Rattle.mas_artifact.proofs.Slots.{one_solution}
use Rattle.mas_artifact.proofs.Trees.{put_var}

-- ---- rows of variables

abbrev AreUnbound : List (List ℕ) → List Pair → Type 0
AreUnbound vs s = AllByRecursion (λ v. find s (named v) ≡ None) vs

unbound_stay : (s : List Pair) (vs : List (List ℕ)) → AreUnbound vs s → map (put (value_of s)) (map variable vs) ≡ map variable vs
unbound_stay s [] a = refl
unbound_stay s (v ∷ vs) a = λ i. (put_var (value_of s) (named v) ∙ find-None s term.Var (named v) a.0 refl) i ∷ unbound_stay s vs a.1 i

variables_settle : (vs : List (List ℕ)) → each (map settle (map variable vs)) ≡ Ok (map variable vs)
variables_settle [] = refl
variables_settle (v ∷ vs) = λ i. and_then (fold_var (Settled Term) settle_step (named v) i) (λ x. and_then (variables_settle vs i) (λ xs. Ok (x ∷ xs)))

variables_size : (vs : List (List ℕ)) → sum (map size (map variable vs)) ≡ length vs
variables_size [] = refl
variables_size (v ∷ vs) =
    let a = sizes_more (variable v) (map variable vs) in
    let b = fold_var ℕ size_step (named v) in
    let c = variables_size vs in omega (arith, a, b, c)

variables_depth : (vs : List (List ℕ)) → greatest (map depth (map variable vs)) ≤ 1
variables_depth [] = omega arith
variables_depth (v ∷ vs) =
    let a : greatest (map depth (map variable (v ∷ vs))) ≡ max (depth (variable v)) (greatest (map depth (map variable vs))) = refl in
    let b = fold_var ℕ depth_step (named v) in
    let c = variables_depth vs in omega (arith, a, b, c)

variables_row : (vs : List (List ℕ)) → length vs ≤ 3 → settled_row (map variable vs) ≡ Some (map variable vs)
variables_row vs few =
    let n = variables_size vs in
    let d = variables_depth vs in
    ap (λ z. cond z (result_ok (each (map settle (map variable vs)))) None) (within_row (map variable vs) (omega (arith, n, few)) (omega (arith, d))) ∙ ap result_ok (variables_settle vs)

-- their values under a substitution that binds them
values_are : (h : Var → Term) (vs : List (List ℕ)) (ts : List Term) → same_number vs ts ≡ true → Solves h (pairs vs ts) → all (map is_ground ts) ≡ true → map (put term.Var) ts ≡ ts → map (put h) (map variable vs) ≡ ts
values_are h [] [] e a g f = refl
values_are h [] (t ∷ ts) e a g f = absurd (false≢true e)
values_are h (v ∷ vs) [] e a g f = absurd (false≢true e)
values_are h (v ∷ vs) (t ∷ ts) e a g f =
    let one : put term.Var t ≡ t = cc in
    let more : map (put term.Var) ts ≡ ts = cc in
    let is = put_var h (named v) ∙ a.0 ∙ put_ground h t (first_of_both (is_ground t) (all (map is_ground ts)) g) ∙ one in
    let rest = values_are h vs ts e a.1 (second_of_both (is_ground t) (all (map is_ground ts)) g) more in
    (λ i. is i ∷ rest i)

-- ---- the substitution of the guard

pub agreed_is : (o : Outcome) (r : List Pair) → agreed o ≡ Some r → o ≡ Unified r
agreed_is (Unified t) r e = let is : t ≡ r = cc in ap Unified is
agreed_is (Failed f) r e = cc

-- what the act adds, in place of the old fact
abbrev pub exchanged : List Term → Option (List Term) → Option Deed
exchanged items o = option_map (λ xs. exchange (belt (list items)) (belt (list xs))) o

module _ (agent : List ℕ) (x : Term) (g : is_ground x ≡ true) (items : List Term) (k : AreKept items) (vs : List (List ℕ)) (few : length vs ≤ 3)
    (unbound : AreUnbound vs (entry (codes "X") x agent)) (fresh : AreFresh vs (entry (codes "X") x agent)) where
  abbrev begun : List Pair
  begun = entry (codes "X") x agent

  begun_is : IsSubst begun
  begun_is = entry_is agent (codes "X") x g refl

  abbrev solved : List Pair
  solved = begun ++ pairs vs items

  abbrev old : LiteralOf Term
  old = belt (list (map variable vs))

  abbrev new : LiteralOf Term
  new = belt (list (map variable vs ++ variable (codes "X") ∷ []))

  guard_first : first_of (solutions (belt_facts items) (expr.Holds old ∷ []) begun) ≡ cond (same_number vs items) (Some solved) None
  guard_first =
      one_solution (codes "belt") (list (map variable vs)) (list (map variable vs)) (list items) begun refl
      (ready_row begun (list (map variable vs)) (map variable vs) (put_row (value_of begun) (map variable vs) (map variable vs) (unbound_stay begun vs unbound))
      ∙ ap (option_map row_fact) (variables_row vs few))
      ∙ variables_agree vs items begun begun_is fresh k.ground

  -- the argument with its lists merged
  abbrev m : Term
  m = put term.Var x

  abbrev made : List Term
  made = items ++ m ∷ []

  all_more : (ts : List Term) → all (map is_ground ts) ≡ true → is_ground m ≡ true → all (map is_ground (ts ++ m ∷ [])) ≡ true
  all_more [] a b = ap (λ z. z && true) b
  all_more (t ∷ ts) a b =
      both (is_ground t) (all (map is_ground (ts ++ m ∷ []))) (first_of_both (is_ground t) (all (map is_ground ts)) a) (all_more ts (second_of_both (is_ground t) (all (map is_ground ts)) a) b)

  made_ground : all (map is_ground made) ≡ true
  made_ground = all_more items k.ground (still_ground x g)

  made_flat : map (put term.Var) made ≡ made
  made_flat = map-append (put term.Var) items (m ∷ []) ∙ (λ i. k.flat i ++ put_again term.Var x g i ∷ [])

  pub placed_row : row (items ++ x ∷ []) ≡ settled_row made
  placed_row = row_is (items ++ x ∷ []) made (map-append (put term.Var) items (x ∷ []) ∙ (λ i. k.flat i ++ m ∷ []))

  pub made_kept : (xs : List Term) → settled_row made ≡ Some xs → AreKept xs
  made_kept xs = row_kept made xs made_ground made_flat

  module _ (same : same_number vs items ≡ true) where
    solved_is : IsSubst solved
    solved_is =
        let w = ask (list (map variable vs)) (list items) ∷ [] in
        (unified_general begun solved w begun_is (agreed_is (unified begun w) solved
        (variables_agree vs items begun begun_is fresh k.ground ∙ ap (λ b. cond b (Some solved) None) same))).is_subst

    abbrev h : Var → Term
    h = value_of solved

    solves : Solves h solved
    solves = values-solve solved term.Var flat-var solved_is

    put_x : put h (variable (codes "X")) ≡ m
    put_x = put_var h (named (codes "X")) ∙ solves.0 ∙ put_ground h x g

    put_names : map (put h) (map variable vs) ≡ items
    put_names = values_are h vs items same (Solves-back h begun (pairs vs items) solves) k.ground k.flat

    old_effect : effect solved old ≡ Some (belt (list items))
    old_effect =
        effect_is solved old (belt (list items))
        (ready_row solved (list (map variable vs)) items (put_row h (map variable vs) items put_names) ∙ ap (option_map row_fact) (kept_is items k))
        (fact_ground items k.ground)

    new_ready : ready solved new ≡ option_map row_fact (settled_row made)
    new_ready =
        ready_row solved (list (map variable vs ++ variable (codes "X") ∷ [])) made
        (put_row h (map variable vs ++ variable (codes "X") ∷ []) made (map-append (put h) (map variable vs) (variable (codes "X") ∷ []) ∙ (λ i. put_names i ++ put_x i ∷ [])))

    abbrev added : Option (LiteralOf Term) → Option Deed
    added o = option_map (λ adds. record { dels = belt (list items) ∷ []; adds = adds; drops = [] }) (option_and_then (λ y. Some (y ∷ [])) (option_and_then if_ground o))

    added_is : (o : Option (List Term)) → settled_row made ≡ o → added (option_map row_fact o) ≡ exchanged items o
    added_is None e = refl
    added_is (Some xs) e =
        ap (λ b. option_map (λ adds. record { dels = belt (list items) ∷ []; adds = adds; drops = [] }) (option_and_then (λ y. Some (y ∷ [])) (if b then Some (belt (list xs)) else None)))
        (fact_ground xs (made_kept xs e).ground)

    deed_is : deed (belt_put vs) solved ≡ exchanged items (settled_row made)
    deed_is =
        ap (λ z. option_and_then (λ dels. option_map (λ adds. record { dels = dels; adds = adds; drops = [] }) (effects solved (new ∷ []))) (option_and_then (λ y. Some (y ∷ [])) z)) old_effect
        ∙ ap added new_ready
        ∙ added_is (settled_row made) refl

  decided_by : (b : Bool) → same_number vs items ≡ b → option_and_then (deed (belt_put vs)) (cond b (Some solved) None) ≡ cond b (exchanged items (settled_row made)) None
  decided_by true e = deed_is e
  decided_by false e = refl

  pub put_tried : (action : LiteralOf Term) → action.args ≡ x ∷ [] → same_frame (called (codes "belt_put") (codes "X")) action ≡ true
      → tried (belt_facts items) (belt_put vs) agent action ≡ cond (same_number vs items) (exchanged items (settled_row made)) None
  put_tried action e f =
      ap (option_and_then (λ s. option_and_then (deed (belt_put vs)) (first_of (solutions (belt_facts items) (belt_put vs).guard s))))
      (heard agent (codes "X") x g refl (codes "belt_put") old new action e f)
      ∙ ap (option_and_then (deed (belt_put vs))) guard_first
      ∙ decided_by (same_number vs items) refl
