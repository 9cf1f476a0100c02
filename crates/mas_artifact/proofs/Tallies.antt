-- What the table of a tally decides.
use Rattle.std.proofs.Common.{◌≡◌, ◌≤◌, ℕ, ℤ, pos, negsuc, ◌+◌, ◌+ℤ◌, ◌-ℤ◌, ◌≤ℤ◌, max, eqb, eqb-true, length, leb, Bool, true, false, ◌&&◌, cond, if◌then◌else◌, List, [], ◌∷◌, ◌++◌, Option, Some, None, refl, ap, sym, ◌∙◌, subst, codes, arith}
use Rattle.std.specs.List.{flat_map}
use Rattle.std.specs.Option.{option_and_then, option_map, option_or, option_to_list}
use Rattle.std.specs.Prelude.{int_le, int_lt, Result, Ok, Err, IfOk}
use Rattle.std.specs.Result.{result_ok}
use Rattle.std.specs.Str.{bytes_eq}
use Rattle.std.proofs.lemmas.Bool.{leb-true, le-leb, false≢true}
use Rattle.std.proofs.lemmas.Int.{ints}
use Rattle.asl_term.specs.declared.sequence.Starved.{Starved}
use Rattle.asl_term.specs.declared.syntax.LiteralOf.{LiteralOf}
use Rattle.asl_term.specs.declared.syntax.Op.TheVariants.{Add, Sub}
use Rattle.asl_term.specs.declared.syntax.RelOp.{RelOp}
use Rattle.asl_term.specs.declared.syntax.RelOp.TheVariants.{More, LessEq}
use Rattle.asl_term.specs.declared.syntax.Relation.{Relation}
use Rattle.asl_term.specs.declared.syntax.Expr.{Expr}
use Rattle.asl_term.specs.declared.syntax.Expr.TheVariants as expr
use Rattle.asl_term.specs.declared.syntax.Expr.TheVariants.{rolls-Rel}
use Rattle.asl_term.specs.declared.syntax.Expr.TheOpen as expr_layer
use Rattle.asl_term.specs.declared.syntax.Expr.TheViews.{out-Expr, out-roll-Expr}
use Rattle.asl_term.specs.declared.syntax.Term.{Term}
use Rattle.asl_term.specs.declared.syntax.Term.TheVariants as term
use Rattle.asl_term.specs.declared.syntax.Term.TheOpen as layer
use Rattle.asl_term.specs.declared.syntax.Var.{Var}
use Rattle.asl_term.specs.Exprs.{is_ground_literal}
use Rattle.asl_term.specs.Trees.{depth, depth_step, is_ground, size, size_step}
use Rattle.asl_term.specs.Variables.{occurs, occurs_step}
use Rattle.asl_term.proofs.Terms.{fold_num, fold_op, fold_var, out_made}
use Rattle.asl_unify.specs.declared.subst.Pair.{Pair}
use Rattle.asl_unify.specs.Applied.{applied_relation, within_literal, within_relation}
use Rattle.asl_unify.specs.Compare.{ask, asks, same_frame, same_sign, var_in, Unified}
use Rattle.asl_unify.specs.Comparing.{Gives, Passes, both, holds, on_settled, related as compared}
use Rattle.asl_unify.specs.Limits.{within}
use Rattle.asl_unify.specs.Matches.{agreed, annots, on_unified}
use Rattle.asl_unify.specs.Puts.{IsSubst, only, put, value_of, with_pair}
use Rattle.asl_unify.specs.Settling.{Settled, and_then, fits_64, in_64, number_of, operation, or_failing, settle, settle_step, value_if}
use Rattle.asl_unify.specs.Settling.{number_in as number_at}
use Rattle.asl_unify.specs.Unified.{unified}
use Rattle.asl_unify.proofs.Unified.{unified_general}
use Rattle.mas_mind.specs.declared.mind.Feedback.{Feedback}
use Rattle.mas_mind.specs.declared.mind.Feedback.TheVariants.{Done, Failed as NotDone}
use Rattle.mas_world.specs.declared.facts.Deed.{Deed}
use Rattle.mas_world.specs.Acts.{deed, effect, effects, entered, if_ground, tried}
use Rattle.mas_world.specs.Facts.{AreFacts}
use Rattle.mas_world.specs.Guards.{first_of, if_holds, if_so, part_solutions, ready, solutions}
use Rattle.mas_world.specs.Worlds.{Segment, after, segment, segment_acted}
use Rattle.mas_world.proofs.Firsts.{held as guard_held}
use Rattle.mas_artifact.specs.Tables.{atom, difference, literal, named, related, sum, tally, tally_add, tally_table, variable}
use Rattle.mas_artifact.specs.States.{above, args_sum, number_in as number_of_args, raised, tally_acted, tally_facts, tally_sum}
use Rattle.mas_artifact.proofs.Grounds.{ground_arg, no_var, outside, put_again, put_ground}
use Rattle.mas_artifact.proofs.Exchanges.{effect_is, exchange, one_fact, replaced}
use Rattle.mas_artifact.proofs.Steps.{bound_atom, bound_term, one_matches}
use Rattle.mas_artifact.proofs.Trees.{levels_one, nodes_one, put_difference, put_num, put_sum, put_var, ready_by, ready_one, settled_one, within_small, small_num, small_one}

pub tally_facts_are : (n : ℤ) → AreFacts (tally_facts n)
tally_facts_are n = one_fact (tally (term.Num n)) _ _ (small_one (codes "tally") (term.Num n) _ _ (small_num n))

-- ---- relations

module _ (s : List Pair) (op : RelOp) (c : Term → Term → Bool) (is : (x y : Term) → compared op x y s ≡ cond (c x y) (Some s) None) where
  abbrev test : Settled Term → Settled Term → Bool
  test (Ok x) (Ok y) = c x y
  test (Ok x) (Err e) = false
  test (Err e) y = false

  so : (b : Bool) → option_to_list (cond b (Some s) None) ≡ if_so b s
  so true = refl
  so false = refl

  settled_so : (x y : Settled Term) → if_holds (on_settled s (and_then x (λ x. and_then y (λ y. Ok (record { op = op; left = x; right = y }))))) ≡ if_so (test x y) s
  settled_so (Ok x) (Ok y) = ap option_to_list (is x y) ∙ so (c x y)
  settled_so (Ok x) (Err e) = refl
  settled_so (Err e) y = refl

  within_so : (w : Bool) (x y : Settled Term) → if_holds (cond w (on_settled s (and_then x (λ x. and_then y (λ y. Ok (record { op = op; left = x; right = y }))))) Passes) ≡ if_so (w && test x y) s
  within_so true x y = settled_so x y
  within_so false x y = refl

  abbrev rel_test : Term → Term → Bool
  rel_test a b = (within a && within b) && test (settle a) (settle b)

  -- a relation of a guard under a substitution
  rel_so : (facts : List (LiteralOf Term)) (more : List Expr) (a b a' b' : Term) → put (value_of s) a ≡ a' → put (value_of s) b ≡ b'
      → solutions facts (related a op b ∷ more) s ≡ flat_map (solutions facts more) (if_so (rel_test a' b') s)
  rel_so facts more a b a' b' e f =
      let r : Relation = record { op = op; left = a; right = b } in
      ap (λ y. flat_map (solutions facts more) (part_solutions facts s y)) (ap out-Expr (sym (rolls-Rel r)) ∙ out-roll-Expr (expr_layer.Rel r))
      ∙ ap (λ z. flat_map (solutions facts more) (if_holds (within_then z))) puts
      ∙ ap (flat_map (solutions facts more)) (within_so (within a' && within b') (settle a') (settle b'))
    where
      within_then : Relation → Rattle.asl_unify.specs.Comparing.Holding
      within_then r = cond (within_relation r) (on_settled s (Rattle.asl_unify.specs.Settling.settle_relation r)) Passes

      puts : applied_relation s (record { op = op; left = a; right = b }) ≡ record { op = op; left = a'; right = b' }
      puts = λ i. record { op = op; left = e i; right = f i }

-- ---- the substitutions

abbrev most : Term
most = term.Num (pos 9223372036854775807)

module _ (agent : List ℕ) (n : ℤ) (t : Term) (g : is_ground t ≡ true) where
  abbrev k : Var
  k = named (codes "K")

  abbrev a : Var
  a = named (codes "A")

  abbrev v : Var
  v = named (codes "N")

  -- the argument with its lists merged
  abbrev m : Term
  m = put term.Var t

  abbrev first : List Pair
  first = record { var = k; term = t } ∷ []

  abbrev second : List Pair
  second = record { var = k; term = t } ∷ record { var = a; term = atom agent } ∷ []

  abbrev third : List Pair
  third = record { var = k; term = t } ∷ record { var = a; term = atom agent } ∷ record { var = v; term = term.Num n } ∷ []

  bound_k : unified [] (ask (term.Var k) t ∷ []) ≡ Unified first
  bound_k = bound_term [] tt k t refl (no_var t g) (outside k t g)

  first_is : IsSubst first
  first_is = (unified_general [] first (ask (term.Var k) t ∷ []) tt bound_k).is_subst

  bound_a : unified first (ask (term.Var a) (atom agent) ∷ []) ≡ Unified second
  bound_a = bound_atom first first_is a agent refl

  second_is : IsSubst second
  second_is = (unified_general first second (ask (term.Var a) (atom agent) ∷ []) first_is bound_a).is_subst

  bound_v : unified second (ask (term.Var v) (term.Num n) ∷ []) ≡ Unified third
  bound_v =
      bound_term second second_is v (term.Num n) refl (ap var_in (out_made (layer.Num n)))
      (ap (occurs v) (put_num (value_of second) n) ∙ fold_num Bool (occurs_step v) n)

  -- what they give
  abbrev h1 : Var → Term
  h1 = with_pair (record { var = k; term = t }) term.Var

  abbrev h2 : Var → Term
  h2 = with_pair (record { var = a; term = atom agent }) h1

  k_second : h2 k ≡ m
  k_second = ap (put (only a (put h1 (atom agent)))) (put_var (only k m) k) ∙ put_again (only a (put h1 (atom agent))) t g

  v_second : h2 v ≡ term.Var v
  v_second = ap (put (only a (put h1 (atom agent)))) (put_var (only k m) v) ∙ put_var (only a (put h1 (atom agent))) v

  put_v_second : put (value_of second) (term.Var v) ≡ term.Var v
  put_v_second = put_var (value_of second) v ∙ v_second

  put_k : put (value_of third) (term.Var k) ≡ m
  put_k = put_var (value_of third) k ∙ ap (put (only v (put h2 (term.Num n)))) k_second ∙ put_again (only v (put h2 (term.Num n))) t g

  put_v : put (value_of third) (term.Var v) ≡ term.Num n
  put_v = put_var (value_of third) v ∙ ap (put (only v (put h2 (term.Num n)))) v_second ∙ put_var (only v (put h2 (term.Num n))) v ∙ put_num h2 n

  -- ---- the guard

  abbrev old : LiteralOf Term
  old = tally (term.Var v)

  abbrev facts : List (LiteralOf Term)
  facts = tally (term.Num n) ∷ []

  abbrev above_zero : Expr
  above_zero = related (term.Var k) More (term.Num (pos 0))

  abbrev in_range : Expr
  in_range = related (term.Var v) LessEq (difference most (term.Var k))

  old_ready : ready second old ≡ Some old
  old_ready =
      ready_by second (codes "tally") (term.Var v) (term.Var v) put_v_second
      ∙ ap (λ z. cond z (result_ok (settled_one (codes "tally") (settle (term.Var v)))) None) inside
      ∙ ap (λ z. result_ok (settled_one (codes "tally") z)) (fold_var (Settled Term) settle_step v)
    where
      inside : within_literal old ≡ true
      inside =
          ap (λ z. leb z 10000 && leb (depth (term.Lit old)) 250) (nodes_one (codes "tally") (term.Var v) ∙ ap (λ z. 1 + (0 + z) + 0) (fold_var ℕ size_step v))
          ∙ ap (λ z. leb z 250) (levels_one (codes "tally") (term.Var v) ∙ ap (λ z. 1 + max (max z 0) 0) (fold_var ℕ depth_step v))

  abbrev positive : Bool
  positive = rel_test third More (λ x y. both int_lt (number_of y) (number_of x)) (λ x y. refl) m (term.Num (pos 0))

  abbrev small : Bool
  small = rel_test third LessEq (λ x y. both int_le (number_of x) (number_of y)) (λ x y. refl) (term.Num n) (difference most m)

  ranged : solutions facts (in_range ∷ []) third ≡ flat_map (λ s. s ∷ []) (if_so small third)
  ranged =
      rel_so third LessEq (λ x y. both int_le (number_of x) (number_of y)) (λ x y. refl) facts [] (term.Var v) (difference most (term.Var k)) (term.Num n) (difference most m) put_v
      (put_difference (value_of third) most (term.Var k) ∙ (λ i. difference (put_num (value_of third) (pos 9223372036854775807) i) (put_k i)))

  rels : solutions facts (above_zero ∷ in_range ∷ []) third ≡ flat_map (solutions facts (in_range ∷ [])) (if_so positive third)
  rels =
      rel_so third More (λ x y. both int_lt (number_of y) (number_of x)) (λ x y. refl) facts (in_range ∷ []) (term.Var k) (term.Num (pos 0)) m (term.Num (pos 0)) put_k (put_num (value_of third) (pos 0))

  abbrev chosen : Bool → Bool → Option (List Pair)
  chosen p q = cond p (cond q (Some third) None) None

  first_chosen : (p q : Bool) → solutions facts (in_range ∷ []) third ≡ flat_map (λ s. s ∷ []) (if_so q third) → first_of (flat_map (solutions facts (in_range ∷ [])) (if_so p third) ++ []) ≡ chosen p q
  first_chosen false q e = refl
  first_chosen true true e = ap (λ z. first_of ((z ++ []) ++ [])) e
  first_chosen true false e = ap (λ z. first_of ((z ++ []) ++ [])) e

  guard_first : first_of (solutions facts tally_add.guard second) ≡ chosen positive small
  guard_first =
      ap first_of (guard_held facts (expr.Holds old) (above_zero ∷ in_range ∷ []) second old old refl (sym old_ready))
      ∙ ap (λ ms. first_of (flat_map (solutions facts (above_zero ∷ in_range ∷ [])) (ms ++ [])))
      (one_matches (codes "tally") (term.Var v) (term.Num n) second refl ∙ ap (on_unified (λ r. r ∷ [])) bound_v)
      ∙ ap (λ z. first_of (z ++ [])) rels
      ∙ first_chosen positive small ranged

  -- ---- the act

  abbrev add_head : LiteralOf Term
  add_head = literal (codes "tally_add") (term.Var k ∷ [])

  abbrev on_first : List (List Pair) → Option (List Pair)
  on_first ms = option_and_then (λ s. agreed (unified s (ask (term.Var a) (atom agent) ∷ []))) (first_of ms)

  add_entered : (action : LiteralOf Term) (b : Bool) → action.args ≡ t ∷ [] → same_frame add_head action ≡ b → entered tally_add agent action ≡ cond b (Some second) None
  add_entered action true e f =
      ap (λ z. on_first (cond z (on_unified (annots [] action.annots) (unified [] (asks (term.Var k ∷ []) action.args []))) [])) f
      ∙ ap (λ ts. on_first (on_unified (annots [] action.annots) (unified [] (asks (term.Var k ∷ []) ts [])))) e
      ∙ ap (λ o. on_first (on_unified (annots [] action.annots) o)) bound_k
      ∙ ap agreed bound_a
  add_entered action false e f =
      ap (λ z. on_first (cond z (on_unified (annots [] action.annots) (unified [] (asks (term.Var k ∷ []) action.args []))) [])) f

  abbrev total : LiteralOf Term
  total = tally (sum (term.Num n) m)

  -- the sum, ready
  abbrev summed : Option (LiteralOf Term)
  summed = cond (within_literal total) (result_ok (settled_one (codes "tally") (settle (sum (term.Num n) m)))) None

  new_ready : ready third (tally (sum (term.Var v) (term.Var k))) ≡ summed
  new_ready =
      ready_by third (codes "tally") (sum (term.Var v) (term.Var k)) (sum (term.Num n) m)
      (put_sum (value_of third) (term.Var v) (term.Var k) ∙ (λ i. sum (put_v i) (put_k i)))

  sum_ready : ready [] (tally (sum (term.Num n) t)) ≡ summed
  sum_ready =
      ready_by [] (codes "tally") (sum (term.Num n) t) (sum (term.Num n) m)
      (put_sum (value_of []) (term.Num n) t ∙ (λ i. sum (put_num (value_of []) n i) (put_ground (value_of []) t g i)))

  old_effect : effect third old ≡ Some (tally (term.Num n))
  old_effect =
      effect_is third old (tally (term.Num n)) (ready_one third (codes "tally") (term.Var v) (term.Num n) 1 1 put_v (small_num n) refl)
      (small_one (codes "tally") (term.Num n) 1 1 (small_num n)).ground

  abbrev given : Option (LiteralOf Term) → Option Deed
  given o = option_map (λ adds. record { dels = tally (term.Num n) ∷ []; adds = adds; drops = [] }) (option_and_then (λ x. Some (x ∷ [])) (option_and_then if_ground o))

  deed_given : deed tally_add third ≡ given summed
  deed_given =
      ap (λ z. option_and_then (λ dels. option_map (λ adds. record { dels = dels; adds = adds; drops = [] }) (effects third (tally (sum (term.Var v) (term.Var k)) ∷ []))) (option_and_then (λ x. Some (x ∷ [])) z)) old_effect
      ∙ ap given new_ready

  abbrev answer : Option (LiteralOf Term) → Option Deed
  answer o = option_map (λ z. exchange (tally (term.Num n)) (tally (term.Num z))) (option_and_then (above n) (option_and_then (λ l. number_of_args l.args) o))

  abbrev taken : Bool → Bool → Option Deed → Option Deed
  taken p q d = cond p (cond q d None) None

  nothing : (p q : Bool) → taken p q None ≡ None
  nothing true true = refl
  nothing true false = refl
  nothing false q = refl

  -- ---- the numbers

  abbrev settled_sum : Settled Term → Settled Term
  settled_sum s = and_then s (λ y. and_then (operation Add (term.Num n) y) (λ z. Ok (term.Num z)))

  settle_sum : settle (sum (term.Num n) m) ≡ settled_sum (settle m)
  settle_sum =
      fold_op (Settled Term) settle_step (record { op = Add; left = term.Num n; right = m })
      ∙ ap (λ z. and_then z (λ x. and_then (settle m) (λ y. and_then (operation Add x y) (λ z. Ok (term.Num z))))) (small_num n).settles

  settle_difference : settle (difference most m) ≡ and_then (settle m) (λ y. and_then (operation Sub most y) (λ z. Ok (term.Num z)))
  settle_difference =
      fold_op (Settled Term) settle_step (record { op = Sub; left = most; right = m })
      ∙ ap (λ z. and_then z (λ x. and_then (settle m) (λ y. and_then (operation Sub x y) (λ z. Ok (term.Num z))))) (small_num (pos 9223372036854775807)).settles

  -- where the sum is within the limits, so are its parts
  record Inside : Type 0 where
    inner : within m ≡ true
    left : within (difference most m) ≡ true

  both_of : (p q : Bool) → (p && q) ≡ true → (p ≡ true) × (q ≡ true)
  both_of true q e = (refl, e)
  both_of false q e = absurd (false≢true e)

  parts_inside : within_literal total ≡ true → Inside
  parts_inside e =
      let b = both_of (leb (size (term.Lit total)) 10000) (leb (depth (term.Lit total)) 250) e in
      let nodes = leb-true _ _ b.0 in
      let levels = leb-true _ _ b.1 in
      let n1 = nodes_one (codes "tally") (sum (term.Num n) m) in
      let n2 = fold_op ℕ size_step (record { op = Add; left = term.Num n; right = m }) in
      let n3 = (small_num n).nodes in
      let l1 = levels_one (codes "tally") (sum (term.Num n) m) in
      let l2 = fold_op ℕ depth_step (record { op = Add; left = term.Num n; right = m }) in
      let l3 = (small_num n).levels in
      let d1 = fold_op ℕ size_step (record { op = Sub; left = most; right = m }) in
      let d2 = (small_num (pos 9223372036854775807)).nodes in
      let d3 = fold_op ℕ depth_step (record { op = Sub; left = most; right = m }) in
      let d4 = (small_num (pos 9223372036854775807)).levels in
      let i1 : size m ≤ 10000 = omega (arith, nodes, n1, n2, n3) in
      let i2 : depth m ≤ 250 = omega (arith, levels, l1, l2, l3) in
      let j1 : size (difference most m) ≤ 10000 = omega (arith, nodes, n1, n2, n3, d1, d2) in
      let j2 : depth (difference most m) ≤ 250 = omega (arith, levels, l1, l2, l3, d3, d4) in
      record {
        inner = (λ i. le-leb _ _ i1 i && le-leb _ _ i2 i);
        left = (λ i. le-leb _ _ j1 i && le-leb _ _ j2 i);
      }

  -- the sum of what an operand settles to
  abbrev op_by : Option ℤ → Settled ℤ
  op_by o = or_failing (record { op = Add; left = Some n; right = o }) (value_if Add (Some n) o)

  number_n : (z : ℤ) → number_of (term.Num z) ≡ Some z
  number_n z = ap number_at (out_made (layer.Num z))

  add_is : (y : Term) (o : Option ℤ) → number_of y ≡ o → operation Add (term.Num n) y ≡ op_by o
  add_is y o e =
      ap (λ z. or_failing (record { op = Add; left = z; right = number_of y }) (value_if Add z (number_of y))) (number_n n)
      ∙ ap op_by e

  abbrev summed_by : Bool → Settled ℤ → Option (LiteralOf Term)
  summed_by w z = cond w (result_ok (settled_one (codes "tally") (and_then z (λ z. Ok (term.Num z))))) None

  -- the whole where the sum is ready
  module _ (from_zero : pos 0 ≤ℤ n) (y : Term) (c : ℤ) (w : within_literal total ≡ true) (settles : settle m ≡ Ok y) (is_c : number_of y ≡ Some c) (fit : fits_64 (n +ℤ c) ≡ true) where
    inside : Inside
    inside = parts_inside w

    positive_is : positive ≡ int_lt (pos 0) c
    positive_is =
        ap (λ z. (z && within (term.Num (pos 0))) && more_test (settle m) (settle (term.Num (pos 0)))) inside.inner
        ∙ ap (λ z. z && more_test (settle m) (settle (term.Num (pos 0)))) (within_small (term.Num (pos 0)) 1 1 (small_num (pos 0)))
        ∙ (λ i. more_test (settles i) ((small_num (pos 0)).settles i))
        ∙ (λ i. both int_lt (number_n (pos 0) i) (is_c i))
      where
        more_test : Settled Term → Settled Term → Bool
        more_test = test third More (λ x y. both int_lt (number_of y) (number_of x)) (λ x y. refl)

    abbrev rest : ℤ
    rest = pos 9223372036854775807 -ℤ c

    rest_fits : int_lt (pos 0) c ≡ true → fits_64 rest ≡ true
    rest_fits p =
        let top = (both_of (int_le (negsuc 9223372036854775807) (n +ℤ c)) (int_lt (n +ℤ c) (pos 9223372036854775808)) fit).1 in
        let low : int_le (negsuc 9223372036854775807) rest ≡ true = grind (arith, ints) in
        let high : int_lt rest (pos 9223372036854775808) ≡ true = grind (arith, ints) in
        (λ i. low i && high i)

    difference_settles : int_lt (pos 0) c ≡ true → settle (difference most m) ≡ Ok (term.Num rest)
    difference_settles p =
        settle_difference
        ∙ ap (λ z. and_then z (λ y. and_then (operation Sub most y) (λ z. Ok (term.Num z)))) settles
        ∙ (λ i. and_then (or_failing (record { op = Sub; left = number_n (pos 9223372036854775807) i; right = is_c i }) (value_if Sub (number_n (pos 9223372036854775807) i) (is_c i))) (λ z. Ok (term.Num z)))
        ∙ ap (λ b. and_then (or_failing (record { op = Sub; left = Some (pos 9223372036854775807); right = Some c }) (if b then Some rest else None)) (λ z. Ok (term.Num z))) (rest_fits p)

    small_is : int_lt (pos 0) c ≡ true → small ≡ true
    small_is p =
        ap (λ z. (z && within (difference most m)) && less_test (settle (term.Num n)) (settle (difference most m))) (within_small (term.Num n) 1 1 (small_num n))
        ∙ ap (λ z. z && less_test (settle (term.Num n)) (settle (difference most m))) inside.left
        ∙ (λ i. less_test ((small_num n).settles i) (difference_settles p i))
        ∙ (λ i. both int_le (number_n n i) (number_n rest i))
        ∙ at_most
      where
        less_test : Settled Term → Settled Term → Bool
        less_test = test third LessEq (λ x y. both int_le (number_of x) (number_of y)) (λ x y. refl)

        at_most : int_le n rest ≡ true
        at_most =
            let top = (both_of (int_le (negsuc 9223372036854775807) (n +ℤ c)) (int_lt (n +ℤ c) (pos 9223372036854775808)) fit).1 in
            grind (arith, ints)

    abbrev made_of : ℤ → LiteralOf Term
    made_of z = tally (term.Num z)

    summed_is : summed ≡ Some (made_of (n +ℤ c))
    summed_is =
        ap (λ z. cond z (result_ok (settled_one (codes "tally") (settle (sum (term.Num n) m)))) None) w
        ∙ ap (λ z. result_ok (settled_one (codes "tally") z)) (settle_sum ∙ ap settled_sum settles)
        ∙ ap (summed_by true) (add_is y (Some c) is_c)
        ∙ ap (λ b. summed_by true (or_failing (record { op = Add; left = Some n; right = Some c }) (if b then Some (n +ℤ c) else None))) fit

    given_is : given (Some (made_of (n +ℤ c))) ≡ Some (exchange (tally (term.Num n)) (made_of (n +ℤ c)))
    given_is =
        ap (λ b. option_map (λ adds. record { dels = tally (term.Num n) ∷ []; adds = adds; drops = [] }) (option_and_then (λ x. Some (x ∷ [])) (if b then Some (made_of (n +ℤ c)) else None)))
        (small_one (codes "tally") (term.Num (n +ℤ c)) 1 1 (small_num (n +ℤ c))).ground

    abbrev above_by : Bool → Option Deed
    above_by b = option_map (λ z. exchange (tally (term.Num n)) (tally (term.Num z))) (if b then Some (n +ℤ c) else None)

    whole_by : (p : Bool) → int_lt (pos 0) c ≡ p → taken positive small (given summed) ≡ answer summed
    whole_by true p =
        (λ i. taken ((positive_is ∙ p) i) (small_is p i) (given (summed_is i))) ∙ given_is
        ∙ sym (ap answer summed_is ∙ ap (λ o. option_map (λ z. exchange (tally (term.Num n)) (tally (term.Num z))) (option_and_then (above n) o)) (number_n (n +ℤ c)) ∙ ap above_by more)
      where
        more : int_lt n (n +ℤ c) ≡ true
        more = grind (arith, ints)
    whole_by false p =
        ap (λ z. taken z small (given summed)) (positive_is ∙ p)
        ∙ sym (ap answer summed_is ∙ ap (λ o. option_map (λ z. exchange (tally (term.Num n)) (tally (term.Num z))) (option_and_then (above n) o)) (number_n (n +ℤ c)) ∙ ap above_by less)
      where
        less : int_lt n (n +ℤ c) ≡ false
        less = grind (arith, ints)

  -- where it is not ready nothing is done
  not_ready : summed ≡ None → taken positive small (given summed) ≡ answer summed
  not_ready e = ap (λ o. taken positive small (given o)) e ∙ nothing positive small ∙ sym (ap answer e)

  whole : pos 0 ≤ℤ n → taken positive small (given summed) ≡ answer summed
  whole from_zero = by_within (within_literal total) refl where
    failed : (y : Term) (o : Option ℤ) → settle m ≡ Ok y → number_of y ≡ o → result_ok (op_by o) ≡ None → summed ≡ None
    failed y o s e f =
        ap (λ z. cond (within_literal total) (result_ok (settled_one (codes "tally") z)) None) (settle_sum ∙ ap settled_sum s)
        ∙ ap (summed_by (within_literal total)) (add_is y o e)
        ∙ fails (within_literal total) (op_by o) f
      where
        fails : (w : Bool) (z : Settled ℤ) → result_ok z ≡ None → summed_by w z ≡ None
        fails true (Ok z) e = cc
        fails true (Err z) e = refl
        fails false z e = refl

    by_fit : (b : Bool) (y : Term) (c : ℤ) → within_literal total ≡ true → settle m ≡ Ok y → number_of y ≡ Some c → fits_64 (n +ℤ c) ≡ b → taken positive small (given summed) ≡ answer summed
    by_fit true y c w s e f = whole_by from_zero y c w s e f (int_lt (pos 0) c) refl
    by_fit false y c w s e f = not_ready (failed y (Some c) s e (ap (λ b. result_ok (or_failing (record { op = Add; left = Some n; right = Some c }) (if b then Some (n +ℤ c) else None))) f))

    by_number : (o : Option ℤ) (y : Term) → within_literal total ≡ true → settle m ≡ Ok y → number_of y ≡ o → taken positive small (given summed) ≡ answer summed
    by_number None y w s e = not_ready (failed y None s e refl)
    by_number (Some c) y w s e = by_fit (fits_64 (n +ℤ c)) y c w s e refl

    by_settled : (z : Settled Term) → within_literal total ≡ true → settle m ≡ z → taken positive small (given summed) ≡ answer summed
    by_settled (Ok y) w s = by_number (number_of y) y w s refl
    by_settled (Err x) w s =
        not_ready (ap (λ z. cond (within_literal total) (result_ok (settled_one (codes "tally") z)) None) (settle_sum ∙ ap settled_sum s) ∙ ap (λ z. cond z None None) w)

    by_within : (b : Bool) → within_literal total ≡ b → taken positive small (given summed) ≡ answer summed
    by_within true w = by_settled (settle m) w refl
    by_within false w = not_ready (ap (λ z. cond z (result_ok (settled_one (codes "tally") (settle (sum (term.Num n) m)))) None) w)

-- ---- the whole table

abbrev tally_after : ℤ → Option Deed → Feedback × Segment
tally_after n d = after (segment tally_table (tally_facts n)) d

-- the segment of what the native state becomes
abbrev seen : Feedback × ℤ → Feedback × Segment
seen r = (r.0, segment tally_table (tally_facts r.1))

abbrev exchanged : ℤ → Option ℤ → Option Deed
exchanged n o = option_map (λ z. exchange (tally (term.Num n)) (tally (term.Num z))) o

rose : (n : ℤ) (o : Option ℤ) → tally_after n (option_or (exchanged n o) None) ≡ seen (raised n o)
rose n None = refl
rose n (Some z) = ap (λ fs. (Done, segment tally_table fs)) (replaced (tally (term.Num n)) (tally (term.Num z)))

abbrev pub adds : LiteralOf Term
adds = literal (codes "tally_add") (variable (codes "K") ∷ [])

add_tried : (n : ℤ) (agent : List ℕ) (action : LiteralOf Term) (t : Term) (b : Bool) → pos 0 ≤ℤ n → is_ground t ≡ true → action.args ≡ t ∷ [] → same_frame adds action ≡ b
    → tried (tally_facts n) tally_add agent action ≡ cond b (exchanged n (tally_sum n t)) None
add_tried n agent action t false z g e f =
    ap (option_and_then (λ s. option_and_then (deed tally_add) (first_of (solutions (tally_facts n) tally_add.guard s)))) (add_entered agent n t g action false e f)
add_tried n agent action t true z g e f =
    ap (option_and_then (λ s. option_and_then (deed tally_add) (first_of (solutions (tally_facts n) tally_add.guard s)))) (add_entered agent n t g action true e f)
    ∙ ap (option_and_then (deed tally_add)) (guard_first agent n t g)
    ∙ chose (positive agent n t g) (small agent n t g)
    ∙ ap (taken agent n t g (positive agent n t g) (small agent n t g)) (deed_given agent n t g)
    ∙ whole agent n t g z
    ∙ sym (ap (answer agent n t g) (sum_ready agent n t g))
  where
    chose : (p q : Bool) → option_and_then (deed tally_add) (chosen agent n t g p q) ≡ taken agent n t g p q (deed tally_add (third agent n t g))
    chose true true = refl
    chose true false = refl
    chose false q = refl

unheard : (n : ℤ) (agent : List ℕ) (action : LiteralOf Term) → same_frame adds action ≡ false → tried (tally_facts n) tally_add agent action ≡ None
unheard n agent action f = ap (λ z. on_entered (entered_by (cond z (on_unified (annots [] action.annots) (unified [] (asks (variable (codes "K") ∷ []) action.args []))) []))) f where
  entered_by : List (List Pair) → Option (List Pair)
  entered_by ms = option_and_then (λ s. agreed (unified s (ask (variable (codes "A")) (atom agent) ∷ []))) (first_of ms)

  on_entered : Option (List Pair) → Option Deed
  on_entered o = option_and_then (λ s. option_and_then (deed tally_add) (first_of (solutions (tally_facts n) tally_add.guard s))) o

-- one argument, and no other number
frame_length : (action : LiteralOf Term) → same_frame adds action ≡ true → 1 ≡ length action.args
frame_length action f = eqb-true 1 (length action.args) (last (same_sign false action.neg) (bytes_eq (codes "tally_add") action.functor) (eqb 1 (length action.args)) f) where
  last : (p q r : Bool) → (p && q && r) ≡ true → r ≡ true
  last true true r e = e
  last true false r e = absurd (false≢true e)
  last false q r e = absurd (false≢true e)

-- what a tally's table does, by its native state
pub tally_acts : (n : ℤ) (agent : List ℕ) (action : LiteralOf Term) → pos 0 ≤ℤ n → is_ground_literal action ≡ true
    → segment_acted (segment tally_table (tally_facts n)) agent action ≡ seen (tally_acted n action)
tally_acts n agent action z g = go (same_frame adds action) refl action.args refl where
  acted_by : Bool → List Term → Feedback × ℤ
  acted_by b args = if b then raised n (args_sum n args) else (NotDone, n)

  go : (b : Bool) → same_frame adds action ≡ b → (args : List Term) → action.args ≡ args → segment_acted (segment tally_table (tally_facts n)) agent action ≡ seen (acted_by (same_frame adds action) action.args)
  go false f args e =
      ap (λ d. tally_after n (option_or d None)) (unheard n agent action f) ∙ sym (ap (λ b. seen (acted_by b action.args)) f)
  go true f [] e = let l = frame_length action f in let k = ap length e in absurd (omega (arith, l, k))
  go true f (t ∷ []) e =
      ap (λ d. tally_after n (option_or d None)) (add_tried n agent action t true z (ground_arg action t e g) e f)
      ∙ rose n (tally_sum n t)
      ∙ sym (λ i. seen (acted_by (f i) (e i)))
  go true f (t ∷ u ∷ more) e = let l = frame_length action f in let k = ap length e in absurd (omega (arith, l, k))

pub tally_does : (n new : ℤ) (r : Result Feedback Starved) (agent : List ℕ) (action : LiteralOf Term) → pos 0 ≤ℤ n → is_ground_literal action ≡ true
    → IfOk r (λ f. (f, new) ≡ tally_acted n action)
    → IfOk r (λ f. (f, segment tally_table (tally_facts new)) ≡ segment_acted (segment tally_table (tally_facts n)) agent action)
tally_does n new (Ok f) agent action z g e = ap seen e ∙ sym (tally_acts n agent action z g)
tally_does n new (Err f) agent action z g e = e

-- what comes is greater
above_more : (n : ℤ) (o : Option ℤ) (m : ℤ) → option_and_then (above n) o ≡ Some m → n ≤ℤ m
above_more n None m e = cc
above_more n (Some c) m e = go (int_lt n c) refl e where
  go : (b : Bool) → int_lt n c ≡ b → (if b then Some c else None) ≡ Some m → n ≤ℤ m
  go true f e = let is : c ≡ m = cc in subst (λ z. n ≤ℤ z) is (omega (arith, ints, f))
  go false f e = cc

pub sum_more : (n : ℤ) (args : List Term) (m : ℤ) → args_sum n args ≡ Some m → n ≤ℤ m
sum_more n [] m e = cc
sum_more n (t ∷ more) m e = above_more n _ m e

-- ---- what the code finds

pub sum_from : (n : ℤ) (t : Term) (l : LiteralOf Term) (s : List Pair) (o : Option (LiteralOf Term)) → l ≡ tally (sum (term.Num n) t) → s ≡ [] → o ≡ ready s l
    → option_and_then (above n) (option_and_then (λ l. number_of_args l.args) o) ≡ tally_sum n t
sum_from n t l s o e f r = ap (λ o. option_and_then (above n) (option_and_then (λ l. number_of_args l.args) o)) (r ∙ (λ i. ready (f i) (e i)))

pub heard : (n : ℤ) (action : LiteralOf Term) (m : ℤ) → same_frame adds action ≡ true → args_sum n action.args ≡ Some m → (Done, m) ≡ tally_acted n action
heard n action m f e = sym (λ i. if f i then raised n (e i) else (NotDone, n))
