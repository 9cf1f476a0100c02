-- A solution's variables have numbers below its next fresh number.
use Rattle.std.proofs.Common.{◌≡◌, ◌≤◌, ◌<◌, ℕ, ◌+◌, Bool, true, false, cond, List, [], ◌∷◌, map, length, Option, Some, None, refl, sym, ap, ◌∙◌, subst, arith, pos, inl, inr}
use Rattle.std.specs.Prelude.{Ok, Err, nat_lt, if◌then◌else◌}
use Rattle.std.proofs.lemmas.Bool.{ltb-true, lt-ltb, eq-eqb}
use Rattle.std.specs.List.{AllByRecursion}
use Rattle.std.specs.Option.{option_map}
use Rattle.asl_term.specs.declared.syntax.Var.{Var}
use Rattle.asl_term.specs.declared.syntax.LiteralOf.{LiteralOf}
use Rattle.asl_term.specs.declared.syntax.Term.{Term}
use Rattle.asl_term.specs.declared.syntax.Term.TheVariants as term
use Rattle.asl_term.specs.declared.syntax.ArgOf.{ArgOf}
use Rattle.asl_term.specs.declared.syntax.ArgOf.TheVariants.{Plain, Logic}
use Rattle.asl_term.specs.declared.syntax.Relation.{Relation}
use Rattle.asl_term.specs.declared.syntax.RelOp.{RelOp}
use Rattle.asl_term.specs.declared.syntax.RelOp.TheVariants.{Less, LessEq, More, MoreEq, Same, Differ, Unify}
use Rattle.asl_term.specs.declared.syntax.Expr.{Expr}
use Rattle.asl_term.specs.Same.{same_tree}
use Rattle.asl_term.specs.Trees.{all, or_true, or_zero, is_ground, ground_step}
use Rattle.asl_term.specs.Exprs.{map_arg}
use Rattle.asl_term.proofs.Terms.{OfTail, by_cases, fold_num, fold_str, fold_var, fold_lit, fold_list, fold_op}
use Rattle.asl_term_actions.specs.declared.action.Action.{Action}
use Rattle.asl_term_actions.specs.declared.action.Action.TheVariants as action
use Rattle.asl_term_actions.specs.declared.action.Collector.TheVariants as collector
use Rattle.asl_term_actions.specs.Actions.{named}
use Rattle.asl_unify.specs.declared.subst.Pair.{Pair}
use Rattle.asl_unify.specs.inner.Costs.{total, weight, weight_step}
use Rattle.asl_unify.specs.Compare.{ask, Question, Outcome, Unified, Failed, same_frame}
use Rattle.asl_unify.specs.Unified.{unified, question_sum}
use Rattle.asl_unify.specs.Matches.{agreed}
use Rattle.asl_unify.specs.Comparing.{Gives, Passes, related, on_settled, holds}
use Rattle.asl_unify.specs.Settling.{Settled, settle_relation}
use Rattle.asl_unify.specs.Applied.{applied_literal, applied_relation, within_relation}
use Rattle.asl_unify.specs.Limits.{within}
use Rattle.asl_unify.specs.Facts.{Fact, Belief, Rule, head, heads, clauses_of}
use Rattle.asl_unify.specs.Renamed.{numbered, renamed, renamed_literal}
use Rattle.asl_unify.proofs.General.{and_true}
use Rattle.asl_resolve.specs.declared.calls.Gather.{Gather}
use Rattle.asl_resolve.specs.declared.calls.Gather.TheVariants.{Findall, Count}
use Rattle.asl_resolve.specs.Base.{Base}
use Rattle.asl_resolve.specs.Calls.{Collection, findall_of, count_of, collected, gathered, listed, terms, unless_free}
use Rattle.asl_resolve.specs.Solves.{Among, Becomes, One, Solution, substs}
use Rattle.asl_resolve.specs.Solves as so
use Rattle.asl_lint_laws.specs.Fresh.{late, terms_count, literal_count, arg_count, expr_count, pairs_count, ExprBelow, SubstBelow, FactBelow, SolvesBelow, SolutionsBelow}
use Rattle.asl_lint_laws.proofs.Counts.{less, pairs_less, with_terms_weigh, apply_none, applied_none}
use Rattle.asl_lint_laws.proofs.FreshSettles.{literal_stays, relation_stays}
use Rattle.asl_lint_laws.proofs.FreshMatching.{unified_keeps, matches_keep}
use Rattle.asl_lint_laws.proofs.Exprs.{count_holds, count_rel, count_inner, count_and, count_or, literal_mapped, expr_mapped, literal_less, expr_less}

-- ---- late variables

late_below : (n : ℕ) (x : Var) → late n x ≡ 0 → x.number < n
late_below n x e = go (nat_lt x.number n) refl e where
  go : (b : Bool) → nat_lt x.number n ≡ b → ◌≡◌ {A = ℕ} (cond b 0 1) 0 → x.number < n
  go true u d = ltb-true x.number n u
  go false u d = absurd (omega (arith, d))

below_late : (n : ℕ) (x : Var) → x.number < n → late n x ≡ 0
below_late n x h = ap (λ b. cond b 0 1) (lt-ltb x.number n h)

later : (n m : ℕ) → n ≤ m → (x : Var) → late n x ≡ 0 → late m x ≡ 0
later n m h x e = let a = late_below n x e in below_late m x (omega (arith, a, h))

-- renamed by n, what has the number 0 is below n + 1
numbered_below : (n : ℕ) (x : Var) → late 1 x ≡ 0 → late (n + 1) (numbered n x) ≡ 0
numbered_below n x e =
    let a = late_below 1 x e in
    let zero_is : x.number ≡ 0 = omega (arith, a) in
    ap (λ b. late (n + 1) (if b then record x { number = n } else x)) (eq-eqb x.number 0 zero_is)
    ∙ below_late (n + 1) (record x { number = n }) (omega arith)

module _ (n k m : ℕ) (h : (x : Var) → late k x ≡ 0 → late m (numbered n x) ≡ 0) where
  renamed_term : (t : Term) → weight (late k) t ≡ 0 → weight (late m) (renamed n t) ≡ 0
  renamed_term t e =
      with_terms_weigh (late m) (λ v. term.Var (numbered n v)) t
      ∙ less (late k) (λ x. weight (late m) (term.Var (numbered n x))) (λ x d. fold_var ℕ (weight_step (late m)) (numbered n x) ∙ h x d) t e

-- ---- what has no variables

module _ (f : Var → ℕ) where
  abbrev GroundNone : Term → Type 0
  GroundNone t = is_ground t ≡ true → weight f t ≡ 0

  all_ground_none : (ts : List Term) → AllByRecursion GroundNone ts → all (map is_ground ts) ≡ true → terms_count f ts ≡ 0
  all_ground_none [] a e = refl
  all_ground_none (t ∷ ts) a e =
      let s = and_true (is_ground t) (all (map is_ground ts)) e in
      let one = a.0 s.0 in let more = all_ground_none ts a.1 s.1 in omega (arith, one, more)

  end_ground_none : (t : Option Term) → OfTail GroundNone t → or_true (option_map is_ground t) ≡ true → or_zero (option_map (weight f) t) ≡ 0
  end_ground_none None a e = refl
  end_ground_none (Some t) a e = a e

  ground_none : (t : Term) → GroundNone t
  ground_none = by_cases GroundNone (record {
    at_num = λ n e. fold_num ℕ (weight_step f) n;
    at_str = λ b e. fold_str ℕ (weight_step f) b;
    at_var = λ v e. let d : false ≡ true = sym (fold_var Bool ground_step v) ∙ e in cc;
    at_lit = λ l args annots e.
        let s = and_true (all (map is_ground l.args)) (all (map is_ground l.annots)) (sym (fold_lit Bool ground_step l) ∙ e) in
        let one = all_ground_none l.args args s.0 in
        let two = all_ground_none l.annots annots s.1 in
        fold_lit ℕ (weight_step f) l ∙ omega (arith, one, two);
    at_list = λ l items tail e.
        let s = and_true (all (map is_ground l.items)) (or_true (option_map is_ground l.tail)) (sym (fold_list Bool ground_step l) ∙ e) in
        let one = all_ground_none l.items items s.0 in
        let two = end_ground_none l.tail tail s.1 in
        fold_list ℕ (weight_step f) l ∙ omega (arith, one, two);
    at_op = λ a left right e.
        let s = and_true (is_ground a.left) (is_ground a.right) (sym (fold_op Bool ground_step a) ∙ e) in
        let one = left s.0 in
        let two = right s.1 in
        fold_op ℕ (weight_step f) a ∙ omega (arith, one, two);
  })

  -- ---- relations

  abbrev None_in : List Pair → Type 0
  None_in s = pairs_count f s ≡ 0

  agreed_none : (s t : List Pair) (w : List Question) → question_sum (weight f) w ≡ 0 → None_in s → agreed (unified s w) ≡ Some t → None_in t
  agreed_none s t w e d a = go (unified s w) refl a where
    go : (o : Outcome) → unified s w ≡ o → agreed o ≡ Some t → None_in t
    go (Unified u) b c = let same : u ≡ t = cc in subst None_in same (unified_keeps f s u w e d b)
    go (Failed x) b c = cc

  chosen : (b : Bool) (s t : List Pair) → None_in s → cond b (Some s) None ≡ Some t → None_in t
  chosen true s t d e = let same : s ≡ t = cc in subst None_in same d
  chosen false s t d e = cc

  passed : (b : Bool) (s t : List Pair) → None_in s → cond b None (Some s) ≡ Some t → None_in t
  passed true s t d e = cc
  passed false s t d e = let same : s ≡ t = cc in subst None_in same d

  related_none : (op : RelOp) (a c : Term) (s t : List Pair) → weight f a + weight f c ≡ 0 → None_in s → related op a c s ≡ Some t → None_in t
  related_none Unify a c s t e d k = agreed_none s t (ask a c ∷ []) (omega (arith, e)) d k
  related_none Same a c s t e d k = chosen (same_tree a c) s t d k
  related_none Differ a c s t e d k = passed (same_tree a c) s t d k
  related_none Less a c s t e d k = chosen _ s t d k
  related_none LessEq a c s t e d k = chosen _ s t d k
  related_none More a c s t e d k = chosen _ s t d k
  related_none MoreEq a c s t e d k = chosen _ s t d k

  holds_none : (r : Relation) (s t : List Pair) → weight f r.left + weight f r.right ≡ 0 → None_in s → holds r s ≡ Gives (Some t) → None_in t
  holds_none r s t e d k = go (within_relation (applied_relation s r)) k where
    one : weight f (applied_relation s r).left + weight f (applied_relation s r).right ≡ 0
    one =
        let a = apply_none f s r.left d (omega (arith, e)) in
        let b = apply_none f s r.right d (omega (arith, e)) in omega (arith, a, b)

    settled : (q : Settled Relation) → settle_relation (applied_relation s r) ≡ q → on_settled s q ≡ Gives (Some t) → None_in t
    settled (Ok q) u v = related_none q.op q.left q.right s t (relation_stays f (applied_relation s r) q u one) d cc
    settled (Err x) u v = cc

    go : (b : Bool) → cond b (on_settled s (settle_relation (applied_relation s r))) Passes ≡ Gives (Some t) → None_in t
    go true v = settled (settle_relation (applied_relation s r)) refl v
    go false v = cc

  -- ---- collections

  abbrev GatherNone : Gather → Type 0
  GatherNone (Findall t l) = weight f l ≡ 0
  GatherNone (Count t) = weight f t ≡ 0

  gathered_none : (g : Gather) (s t : List Pair) (found : List (List Pair)) → GatherNone g → None_in s → gathered g s found ≡ Gives (Some t) → None_in t
  gathered_none (Findall x l) s t found e d k = go (within list) (is_ground list) refl k where
    list : Term
    list = listed x found

    go : (inside closed : Bool) → is_ground list ≡ closed
        → cond inside (Gives (unless_free closed (agreed (unified s (ask l list ∷ []))))) Passes ≡ Gives (Some t) → None_in t
    go true true u v = let w = ground_none list u in agreed_none s t (ask l list ∷ []) (omega (arith, e, w)) d cc
    go true false u v = cc
    go false closed u v = cc
  gathered_none (Count x) s t found e d k =
      let w = fold_num ℕ (weight_step f) (pos (length found)) in
      agreed_none s t (ask x (term.Num (pos (length found))) ∷ []) (omega (arith, e, w)) d cc

  abbrev ArgsNone : List (ArgOf Expr) → Type 0
  ArgsNone args = total (map (arg_count f) (map (map_arg (expr_count f)) args)) ≡ 0

  findall_none : (args : List (ArgOf Expr)) (g : Collection Expr) → ArgsNone args → findall_of args ≡ Some g → GatherNone g.gather
  findall_none (Plain t ∷ Logic e ∷ Plain l ∷ []) g a k =
      let m : Collection Expr = record { gather = Findall t l; inner = e } in
      let same : m ≡ g = cc in
      subst (λ (z : Collection Expr). GatherNone z.gather) same (omega (arith, a))
  findall_none _ g a k = cc

  count_none : (args : List (ArgOf Expr)) (g : Collection Expr) → ArgsNone args → count_of args ≡ Some g → GatherNone g.gather
  count_none (Logic e ∷ Plain t ∷ []) g a k =
      let m : Collection Expr = record { gather = Count t; inner = e } in
      let same : m ≡ g = cc in
      subst (λ (z : Collection Expr). GatherNone z.gather) same (omega (arith, a))
  count_none _ g a k = cc

  collected_none : (o : Option Action) (args : List (ArgOf Expr)) (g : Collection Expr) → ArgsNone args → collected args o ≡ Some g → GatherNone g.gather
  collected_none (Some (action.Collects collector.Findall)) args g a k = findall_none args g a k
  collected_none (Some (action.Collects collector.Count)) args g a k = count_none args g a k
  collected_none other args g a k = cc

  terms_none : (args : List (ArgOf Expr)) → ArgsNone args → terms_count f (terms args) ≡ 0
  terms_none [] a = refl
  terms_none (Plain t ∷ args) a = let more = terms_none args (omega (arith, a)) in omega (arith, a, more)
  terms_none (Logic e ∷ args) a = terms_none args (omega (arith, a))

  -- ---- goals

  becomes_none : (g h : LiteralOf Term) (s : List Pair) → literal_count f g ≡ 0 → None_in s → Becomes g s h → literal_count f h ≡ 0
  becomes_none g h s e d r =
      let one = applied_none f s g.args d (omega (arith, e)) in
      let two = applied_none f s g.annots d (omega (arith, e)) in
      literal_stays f (applied_literal s g) h r.settled (omega (arith, one, two))

among_all : (P : List Pair → Type 0) (t : List Pair) (xs : List (List Pair)) → AllByRecursion P xs → Among t xs → P t
among_all P t [] a h = absurd h
among_all P t (x ∷ xs) a (inl e) = subst P (sym e) a.0
among_all P t (x ∷ xs) a (inr h) = among_all P t xs a.1 h

fact_of : (g : LiteralOf Term) (c : Fact) (facts : List Fact) → AllByRecursion FactBelow facts → Among c (clauses_of g facts) → FactBelow c
fact_of g c [] a h = absurd h
fact_of g c (x ∷ facts) a h = go (same_frame g (head x)) h (fact_of g c facts a.1) where
  go : (b : Bool) → Among c (cond b (x ∷ clauses_of g facts) (clauses_of g facts)) → (Among c (clauses_of g facts) → FactBelow c) → FactBelow c
  go true (inl e) more = subst FactBelow (sym e) a.0
  go true (inr k) more = more k
  go false k more = more k

module _ (b : Base) (facts : AllByRecursion FactBelow b.facts) (solves : SolvesBelow b.solve) where
  below : {e : Expr} {s t : List Pair} {n m : ℕ} → One b e s n t m → ExprBelow n e → SubstBelow n s → (n ≤ m) × SubstBelow m t
  below so.truth e d = (omega arith, d)
  below {s = s} {t = t} {n = n} (so.relation {r = r} q) e d = (omega arith, holds_none (late n) r s t (sym (count_rel (late n) r) ∙ e) d q)
  below {s = s} {t = t} {n = n} (so.belief {g = g} h l r a k) e d =
      let goal = becomes_none (late n) g h s (sym (count_holds (late n) g) ∙ e) d r in
      let ground = literal_mapped (late 0) (late n) (renamed n) (renamed_term n 0 n (λ x z. let w = late_below 0 x z in absurd (omega (arith, w)))) l
      (fact_of h (Belief l) b.facts facts a) in
      (omega arith, among_all (SubstBelow n) t (heads h n s (Belief l)) (matches_keep (late n) h (renamed_literal n l) s goal ground d) k)
  below {s = s} {t = t} {n = n} {m = m} (so.rule {g = g} h c u r a k o) e d =
      let next : n ≤ n + 1 = omega arith in
      let fact = fact_of h (Rule c) b.facts facts a in
      let goal = literal_less (late n) (late (n + 1)) (later n (n + 1) next) h (becomes_none (late n) g h s (sym (count_holds (late n) g) ∙ e) d r) in
      let is_head = literal_mapped (late 1) (late (n + 1)) (renamed n) (renamed_term n 1 (n + 1) (numbered_below n)) c.head fact.0 in
      let is_body = expr_mapped (late 1) (late (n + 1)) (renamed n) (renamed_term n 1 (n + 1) (numbered_below n)) c.body fact.1 in
      let before = pairs_less (late n) (late (n + 1)) (later n (n + 1) next) s d in
      let match = among_all (SubstBelow (n + 1)) u (heads h n s (Rule c)) (matches_keep (late (n + 1)) h (renamed_literal n c.head) s goal is_head before) k in
      let more = below o is_body match in
      (omega (arith, more.0), more.1)
  below {s = s} {t = t} {n = n} (so.action c ts q r k) e d =
      (omega arith, solves n c.name (terms c.args) s t ts (terms_none (late n) c.args (sym (count_inner (late n) c) ∙ e)) d r k)
  below {s = s} {t = t} {n = n} (so.collection c g xs q a k) e d =
      (omega arith, gathered_none (late n) g.gather s t (substs xs) (collected_none (late n) (named c.name) c.args g (sym (count_inner (late n) c) ∙ e) q) d k)
  below (so.negation a) e d = (omega arith, d)
  below {s = s} {t = t} {n = n} {m = m} (so.both {a = a} {c = c} u k o p) e d =
      let sums = count_and (late n) a c in
      let first = below o (omega (arith, sums, e)) d in
      let second = below p (expr_less (late n) (late k) (later n k first.0) c (omega (arith, sums, e))) first.1 in
      (omega (arith, first.0, second.0), second.1)
  below {n = n} (so.left {a = a} c o) e d = let sums = count_or (late n) a c in below o (omega (arith, sums, e)) d
  below {n = n} (so.right {c = c} a o) e d = let sums = count_or (late n) a c in below o (omega (arith, sums, e)) d

pub solutions_below : SolutionsBelow
solutions_below b e s t n m facts solves ex sub o = below b facts solves o ex sub
