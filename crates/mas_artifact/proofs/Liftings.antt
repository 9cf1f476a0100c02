-- What the act decides that takes the first thing of a belt.
use Rattle.std.proofs.Common.{◌≡◌, ℕ, Bool, true, false, ◌&&◌, cond, if◌then◌else◌, List, [], ◌∷◌, ◌++◌, map, is_some, Option, Some, None, refl, ap, sym, ◌∙◌, codes}
use Rattle.std.specs.List.{flat_map}
use Rattle.std.specs.Option.{option_and_then, option_map}
use Rattle.std.specs.Prelude.{Ok, Err}
use Rattle.std.specs.Result.{result_ok}
use Rattle.asl_term.specs.declared.syntax.Expr.TheVariants as expr
use Rattle.asl_term.specs.declared.syntax.Expr.TheVariants.{rolls-Holds}
use Rattle.asl_term.specs.declared.syntax.Expr.TheOpen as expr_layer
use Rattle.asl_term.specs.declared.syntax.Expr.TheViews.{out-Expr, out-roll-Expr}
use Rattle.asl_term.specs.declared.syntax.LiteralOf.{LiteralOf}
use Rattle.asl_term.specs.declared.syntax.Term.{Term}
use Rattle.asl_term.specs.declared.syntax.Term.TheVariants as term
use Rattle.asl_term.specs.declared.syntax.Var.{Var}
use Rattle.asl_term.specs.Same.{all_same, same_tree}
use Rattle.asl_term.specs.Trees.{is_ground}
use Rattle.asl_term.proofs.Same.{same_self, same_true}
use Rattle.asl_term.proofs.Terms.{fold_list, fold_var}
use Rattle.asl_unify.specs.declared.subst.Pair.{Pair}
use Rattle.asl_unify.specs.Applied.{within_literal}
use Rattle.asl_unify.specs.Compare.{ask, same_frame}
use Rattle.asl_unify.specs.Matches.{agreed}
use Rattle.asl_unify.specs.Puts.{IsSubst, put, value_of}
use Rattle.asl_unify.specs.Settling.{Settled, and_then, settle, settle_step}
use Rattle.asl_unify.specs.Unified.{unified}
use Rattle.asl_unify.proofs.General.{find-None}
use Rattle.asl_unify.proofs.Laws.{Solves, flat-var, values-solve}
use Rattle.asl_unify.proofs.Unified.{unified_general}
use Rattle.mas_world.specs.declared.facts.Deed.{Deed}
use Rattle.mas_world.specs.Acts.{deed, effect, effects, if_ground, tried}
use Rattle.mas_world.specs.Guards.{first_of, found, if_ready, part_solutions, ready, solutions}
use Rattle.mas_artifact.specs.Tables.{belt, belt_take, list, list_before, named, variable}
use Rattle.mas_artifact.specs.States.{AreKept, are_these, belt_facts, row, stands_first}
use Rattle.mas_artifact.proofs.Entries.{called, entry, entry_is, heard}
use Rattle.mas_artifact.proofs.Exchanges.{effect_is, exchange}
use Rattle.mas_artifact.proofs.Grounds.{put_again, put_ground, still_ground}
use Rattle.mas_artifact.proofs.Orders.{first_agrees, nothing_there}
use Rattle.mas_artifact.proofs.Placings.{agreed_is}
use Rattle.mas_artifact.proofs.Rows.{fact_ground, kept_is, list_ground, put_before, put_open, put_row, ready_row, row_fact, row_is, settled_row, tail_kept}
use Rattle.mas_artifact.proofs.Settled.{turns}
use Rattle.mas_artifact.proofs.Slots.{one_solution}
use Rattle.mas_artifact.proofs.Trees.{put_var, ready_by, settled_one}

-- a guard of one literal that is not ready
unready : (facts : List (LiteralOf Term)) (s : List Pair) (l : LiteralOf Term) → ready s l ≡ None → first_of (solutions facts (expr.Holds l ∷ []) s) ≡ None
unready facts s l e =
    ap (λ y. first_of (flat_map (solutions facts []) (part_solutions facts s y))) (ap out-Expr (sym (rolls-Holds l)) ∙ out-roll-Expr (expr_layer.Holds l))
    ∙ ap (λ o. first_of (flat_map (solutions facts []) (if_ready (found facts s) o))) e

all_self : (ts : List Term) → all_same (map same_tree ts) ts ≡ true
all_self [] = refl
all_self (t ∷ ts) = λ i. same_self t i && all_self ts i

abbrev rest_var : Var
rest_var = named (codes "L")

abbrev rest : Term
rest = variable (codes "L")

abbrev asked_fact : Term → LiteralOf Term
asked_fact y = belt (list_before y rest)

module _ (agent : List ℕ) (t : Term) (g : is_ground t ≡ true) where
  abbrev begun : List Pair
  begun = entry (codes "P") t agent

  begun_is : IsSubst begun
  begun_is = entry_is agent (codes "P") t g refl

  -- the argument with its lists merged
  abbrev m : Term
  m = put term.Var t

  abbrev old : LiteralOf Term
  old = asked_fact (variable (codes "P"))

  -- what it settles to, where the whole guard is ready
  abbrev front : Option Term
  front = cond (within_literal (asked_fact m)) (result_ok (settle m)) None

  settle_front : settle (list_before m rest) ≡ and_then (settle m) (λ y. Ok (list_before y rest))
  settle_front =
      fold_list (Settled Term) settle_step (record { items = m ∷ []; tail = Some rest })
      ∙ ap (λ z. and_then (and_then (settle m) (λ x. Ok (x ∷ []))) (λ xs. and_then (and_then z (λ t. Ok (Some t))) (λ t. Ok (term.List (record { items = xs; tail = t })))))
      (fold_var (Settled Term) settle_step rest_var)
      ∙ go (settle m)
    where
      go : (r : Settled Term) → and_then (and_then r (λ x. Ok (x ∷ []))) (λ xs. Ok (term.List (record { items = xs; tail = Some rest }))) ≡ and_then r (λ y. Ok (list_before y rest))
      go (Ok y) = refl
      go (Err e) = refl

  ready_front : (s : List Pair) (a : Term) → put (value_of s) a ≡ m → put (value_of s) rest ≡ rest → ready s (asked_fact a) ≡ option_map asked_fact front
  ready_front s a e f =
      ready_by s (codes "belt") (list_before a rest) (list_before m rest) (put_open (value_of s) a m rest_var e f)
      ∙ ap (λ z. cond (within_literal (asked_fact m)) (result_ok (settled_one (codes "belt") z)) None) settle_front
      ∙ go (within_literal (asked_fact m)) (settle m)
    where
      go : (b : Bool) (r : Settled Term) → cond b (result_ok (settled_one (codes "belt") (and_then r (λ y. Ok (list_before y rest))))) None ≡ option_map asked_fact (cond b (result_ok r) None)
      go true (Ok y) = refl
      go true (Err e) = refl
      go false r = refl

  old_ready : ready begun old ≡ option_map asked_fact front
  old_ready =
      ready_front begun (variable (codes "P"))
      (put_var (value_of begun) (named (codes "P")) ∙ (values-solve begun term.Var flat-var begun_is).0 ∙ put_ground (value_of begun) t g)
      (put_var (value_of begun) rest_var ∙ find-None begun term.Var rest_var refl refl)

  alone_ready : ready [] (asked_fact t) ≡ option_map asked_fact front
  alone_ready = ready_front [] t refl (put_var (value_of []) rest_var)

  front_is : (y : Term) → front ≡ Some y → settle m ≡ Ok y
  front_is y e = go (within_literal (asked_fact m)) (settle m) e where
    go : (b : Bool) (r : Settled Term) → cond b (result_ok r) None ≡ Some y → r ≡ Ok y
    go false r e = cc
    go true (Err x) e = cc
    go true (Ok z) e = let is : z ≡ y = cc in ap Ok is

  same_ok : (r : Settled Term) (x y : Term) → r ≡ Ok x → r ≡ Ok y → x ≡ y
  same_ok r x y e f = cc

  y_ground : (y : Term) → settle m ≡ Ok y → is_ground y ≡ true
  y_ground y e = (turns m y e).ground (still_ground t g)

  y_flat : (y : Term) → settle m ≡ Ok y → put term.Var y ≡ y
  y_flat y e = same_ok (settle m) (put term.Var y) y (sym (ap settle (put_again term.Var t g)) ∙ (turns m y e).merges) e

  take_first : (items : List Term) (y : Term) → front ≡ Some y → first_of (solutions (belt_facts items) (expr.Holds old ∷ []) begun) ≡ agreed (unified begun (ask (list_before y rest) (list items) ∷ []))
  take_first items y e = one_solution (codes "belt") (list_before (variable (codes "P")) rest) (list_before y rest) (list items) begun refl (old_ready ∙ ap (option_map asked_fact) e)

  -- ---- nothing on the belt

  empty_guard : (o : Option Term) → front ≡ o → first_of (solutions (belt_facts []) (expr.Holds old ∷ []) begun) ≡ None
  empty_guard None e = unready (belt_facts []) begun old (old_ready ∙ ap (option_map asked_fact) e)
  empty_guard (Some y) e = take_first [] y e ∙ nothing_there begun begun_is rest_var refl y (y_ground y (front_is y e))

  -- ---- a first thing

  module _ (x : Term) (xs : List Term) (k : AreKept (x ∷ xs)) where
    abbrev solved : List Pair
    solved = begun ++ record { var = rest_var; term = list xs } ∷ []

    abbrev new : LiteralOf Term
    new = belt rest

    xs_kept : AreKept xs
    xs_kept = tail_kept x xs k

    x_flat : put term.Var x ≡ x
    x_flat = go (map (put term.Var) xs) k.flat where
      go : (ys : List Term) → put term.Var x ∷ ys ≡ x ∷ xs → put term.Var x ≡ x
      go ys e = cc

    agrees : (y : Term) (b : Bool) → settle m ≡ Ok y → same_tree y x ≡ b → agreed (unified begun (ask (list_before y rest) (list (x ∷ xs)) ∷ [])) ≡ cond b (Some solved) None
    agrees y b s e = first_agrees begun begun_is rest_var refl y (y_ground y s) x xs k.ground b e (y_flat y s) x_flat

    -- what is taken away is what stands there
    abbrev inside : Bool
    inside = within_literal (belt (list (m ∷ xs)))

    asked_row : (y : Term) → settle m ≡ Ok y → settled_row (m ∷ xs) ≡ cond inside (Some (y ∷ xs)) None
    asked_row y s = λ i. cond inside (result_ok (and_then (s i) (λ x. and_then (xs_kept.settled i) (λ xs. Ok (x ∷ xs))))) None

    module _ (is : IsSubst solved) where
      abbrev h : Var → Term
      h = value_of solved

      solves : Solves h solved
      solves = values-solve solved term.Var flat-var is

      put_first : put h (variable (codes "P")) ≡ m
      put_first = put_var h (named (codes "P")) ∙ solves.0 ∙ put_ground h t g

      put_rest : put h rest ≡ list xs
      put_rest = put_var h rest_var ∙ solves.1.1.0 ∙ put_ground h (list xs) (list_ground xs xs_kept.ground) ∙ put_row term.Var xs xs xs_kept.flat

      taken_ready : ready solved old ≡ option_map row_fact (settled_row (m ∷ xs))
      taken_ready = ready_row solved (list_before (variable (codes "P")) rest) (m ∷ xs) (put_before h (variable (codes "P")) rest m xs put_first put_rest)

      new_effect : effect solved new ≡ Some (belt (list xs))
      new_effect = effect_is solved new (belt (list xs)) (ready_row solved rest xs put_rest ∙ ap (option_map row_fact) (kept_is xs xs_kept)) (fact_ground xs xs_kept.ground)

      abbrev given : Option (LiteralOf Term) → Option Deed
      given o = option_and_then (λ dels. option_map (λ adds. record { dels = dels; adds = adds; drops = [] }) (effects solved (new ∷ []))) (option_and_then (λ z. Some (z ∷ [])) (option_and_then if_ground o))

      abbrev added : Option (LiteralOf Term) → Option Deed
      added z = option_map (λ adds. record { dels = belt (list (x ∷ xs)) ∷ []; adds = adds; drops = [] }) (option_and_then (λ z. Some (z ∷ [])) z)

      gives : given (Some (belt (list (x ∷ xs)))) ≡ Some (exchange (belt (list (x ∷ xs))) (belt (list xs)))
      gives =
          ap (λ b. option_and_then (λ dels. option_map (λ adds. record { dels = dels; adds = adds; drops = [] }) (effects solved (new ∷ []))) (option_and_then (λ z. Some (z ∷ [])) (if b then Some (belt (list (x ∷ xs))) else None)))
          (fact_ground (x ∷ xs) k.ground)
          ∙ ap added new_effect

      deed_is : (y : Term) → settle m ≡ Ok y → y ≡ x → deed belt_take solved ≡ cond inside (Some (exchange (belt (list (x ∷ xs))) (belt (list xs)))) None
      deed_is y s e =
          ap given (taken_ready ∙ ap (option_map row_fact) (asked_row y s ∙ ap (λ z. cond inside (Some (z ∷ xs)) None) e))
          ∙ go inside
        where
          go : (b : Bool) → given (option_map row_fact (cond b (Some (x ∷ xs)) None)) ≡ cond b (Some (exchange (belt (list (x ∷ xs))) (belt (list xs)))) None
          go true = gives
          go false = refl

    abbrev lifts : Bool → Option Deed
    lifts b = cond b (Some (exchange (belt (list (x ∷ xs))) (belt (list xs)))) None

    stands_is : (o : Option Term) → front ≡ o → stands_first t (x ∷ xs) ≡ (is_some (option_map asked_fact o) && are_these (x ∷ xs) (settled_row (m ∷ xs)))
    stands_is o e =
        ap (λ z. is_some z && are_these (x ∷ xs) (row (t ∷ xs))) (alone_ready ∙ ap (option_map asked_fact) e)
        ∙ ap (λ z. is_some (option_map asked_fact o) && are_these (x ∷ xs) z) (row_is (t ∷ xs) (m ∷ xs) (λ i. m ∷ xs_kept.flat i))

    these : (y : Term) (b : Bool) → settle m ≡ Ok y → same_tree y x ≡ b → are_these (x ∷ xs) (settled_row (m ∷ xs)) ≡ (b && inside)
    these y b s e = ap (are_these (x ∷ xs)) (asked_row y s) ∙ go b inside e where
      go : (b w : Bool) → same_tree y x ≡ b → are_these (x ∷ xs) (cond w (Some (y ∷ xs)) None) ≡ (b && w)
      go true true e = λ i. e i && all_self xs i
      go false true e = ap (λ z. z && all_same (map same_tree xs) xs) e
      go true false e = refl
      go false false e = refl

    decides : (o : Option Term) → front ≡ o → option_and_then (deed belt_take) (first_of (solutions (belt_facts (x ∷ xs)) (expr.Holds old ∷ []) begun)) ≡ lifts (stands_first t (x ∷ xs))
    decides None e =
        ap (option_and_then (deed belt_take)) (unready (belt_facts (x ∷ xs)) begun old (old_ready ∙ ap (option_map asked_fact) e))
        ∙ sym (ap lifts (stands_is None e))
    decides (Some y) e = go (same_tree y x) refl where
      settles : settle m ≡ Ok y
      settles = front_is y e

      solved_by : same_tree y x ≡ true → IsSubst solved
      solved_by f =
          let w = ask (list_before y rest) (list (x ∷ xs)) ∷ [] in
          (unified_general begun solved w begun_is (agreed_is (unified begun w) solved (agrees y true settles f))).is_subst

      go : (b : Bool) → same_tree y x ≡ b → option_and_then (deed belt_take) (first_of (solutions (belt_facts (x ∷ xs)) (expr.Holds old ∷ []) begun)) ≡ lifts (stands_first t (x ∷ xs))
      go true f =
          ap (option_and_then (deed belt_take)) (take_first (x ∷ xs) y e ∙ agrees y true settles f)
          ∙ deed_is (solved_by f) y settles (same_true y x f)
          ∙ sym (ap lifts (stands_is (Some y) e ∙ these y true settles f))
      go false f =
          ap (option_and_then (deed belt_take)) (take_first (x ∷ xs) y e ∙ agrees y false settles f)
          ∙ sym (ap lifts (stands_is (Some y) e ∙ these y false settles f))

-- what the act comes to
abbrev pub lifted_deed : Term → List Term → Option Deed
lifted_deed t [] = None
lifted_deed t (x ∷ xs) = cond (stands_first t (x ∷ xs)) (Some (exchange (belt (list (x ∷ xs))) (belt (list xs)))) None

pub take_tried : (agent : List ℕ) (t : Term) → is_ground t ≡ true → (items : List Term) → AreKept items → (action : LiteralOf Term) → action.args ≡ t ∷ []
    → same_frame (called (codes "belt_take") (codes "P")) action ≡ true → tried (belt_facts items) belt_take agent action ≡ lifted_deed t items
take_tried agent t g [] k action e f =
    ap (option_and_then (λ s. option_and_then (deed belt_take) (first_of (solutions (belt_facts []) belt_take.guard s))))
    (heard agent (codes "P") t g refl (codes "belt_take") (old agent t g) (belt rest) action e f)
    ∙ ap (option_and_then (deed belt_take)) (empty_guard agent t g (front agent t g) refl)
take_tried agent t g (x ∷ xs) k action e f =
    ap (option_and_then (λ s. option_and_then (deed belt_take) (first_of (solutions (belt_facts (x ∷ xs)) belt_take.guard s))))
    (heard agent (codes "P") t g refl (codes "belt_take") (old agent t g) (belt rest) action e f)
    ∙ decides agent t g x xs k (front agent t g) refl
