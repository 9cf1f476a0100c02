-- The first plan that matches an event is chosen, where it has no context.
use Rattle.std.proofs.Common.{◌≡◌, ◌∙◌, ◌+◌, ℕ, zero, suc, Bool, true, false, cond, List, [], ◌∷◌, ◌++◌, drop, length, slice_get}
use Rattle.std.proofs.Common.{Option, None, Some, refl, sym, ap, subst, arith}
use Rattle.std.specs.Prelude.{IfSome}
use Rattle.std.specs.List.{filter}
use Rattle.std.specs.Option.{option_map}
use Rattle.std.proofs.lemmas.Bool.{false≢true}
use Rattle.asl_term.specs.declared.syntax.Expr.{Expr}
use Rattle.asl_term.specs.declared.syntax.Expr.TheVariants as expr
use Rattle.asl_term.specs.declared.syntax.LiteralOf.{LiteralOf}
use Rattle.asl_term.specs.declared.syntax.Plan.{Plan}
use Rattle.asl_term.specs.declared.syntax.Term.{Term}
use Rattle.asl_term.specs.declared.syntax.Trigger.{Trigger}
use Rattle.asl_term.proofs.Exprs.{fold_true}
use Rattle.asl_unify.specs.declared.subst.Pair.{Pair}
use Rattle.asl_unify.specs.Matches.{matches}
use Rattle.asl_unify.specs.Renamed.{renamed_expr, renamed_literal, renamed_step}
use Rattle.asl_beliefs.specs.Bases.{facts_of}
use Rattle.asl_resolve.specs.Base.{base}
use Rattle.asl_resolve.specs.Marks.{Meaning, deeper, decide, marks, marks_step}
use Rattle.asl_plans.specs.declared.entry.OwnedPlan.{OwnedPlan}
use Rattle.asl_plans.specs.declared.library.Choice.{Choice}
use Rattle.asl_plans.specs.FiledPlaces.{filed_plans, has_trigger, is_filed}
use Rattle.asl_plans.specs.Libraries.{plan_at}
use Rattle.asl_plans.specs.Plans.{first_way, kept, relevant_from}
use Rattle.asl_plans.proofs.Chosen.{filed_ways, no_way}
use Rattle.asl_plans.proofs.FiledPlans.{passes}
use Rattle.asl_intend.specs.declared.agenda.Event.{Event}
use Rattle.asl_intend.specs.declared.entry.Means.{Means}
use Rattle.asl_intend.specs.Apart.{bound_to, PushedBy}
use Rattle.asl_intend.specs.Means.{applied_means}
use Rattle.asl_intend.specs.Stacks.{any_match}
use Rattle.asl_exec_circumstance.specs.Circumstance.{Surroundings, Circumstance, with_number}
use Rattle.asl_exec_circumstance.specs.declared.peers.Peers.{Peers}
use Rattle.asl_exec_circumstance.specs.declared.rows.Row.{Row}
use Rattle.asl_exec_circumstance.specs.declared.rows.Row.TheVariants as row
use Rattle.asl_exec_choose.specs.declared.chosen.Chosen.{Chosen}
use Rattle.asl_exec_choose.specs.declared.chosen.Chosen.TheVariants as chosen
use Rattle.asl_exec_choose.specs.Choosing.{choose, choose_at, choose_by, renamed_means, sought}
use Rattle.asl_cycle.specs.declared.rows.Sofar.{Sofar}
use Rattle.asl_cycle.specs.declared.rows.TraceLine.TheVariants as line
use Rattle.asl_cycle.specs.inner.Choosing.{IsFirstAt, IsOpenAt, IsTaken, from_stack, from_taken, is_matched, matched_plans}
use Rattle.asl_cycle.specs.Cycle.{and_then, after_appl_pl, after_rel_pl, from_rel_pl}
use Rattle.asl_cycle.specs.Steps.{add_im_row, appl_pl_on, rel_pl_on}

-- the plans of a frame, by two literals that have it
pub filed_alike : (t : Trigger) (l : LiteralOf Term) (plans : List OwnedPlan) (k : ℕ) → l.neg ≡ t.lit.neg → l.functor ≡ t.lit.functor
    → length l.args ≡ length t.lit.args
    → slice_get (filed_plans t.add t.kind l plans) k ≡ slice_get (filed_plans t.add t.kind t.lit plans) k
filed_alike t l plans k n f c = λ i. slice_get (filter (λ e. has_trigger t.add t.kind (n i) (f i) (c i) e.plan.trigger) plans) k

-- the first of a list that passes a test, sought one after another

drop_at : (xs : List OwnedPlan) (k : ℕ) (e : OwnedPlan) → slice_get xs k ≡ Some e → drop k xs ≡ e ∷ drop (suc k) xs
drop_at [] zero e h = cc
drop_at [] (suc k) e h = cc
drop_at (x ∷ xs) zero e h = let is : x ≡ e = cc in ap (λ z. z ∷ xs) is
drop_at (x ∷ xs) (suc k) e h = drop_at xs k e h

abbrev Passed : (OwnedPlan → Bool) → List OwnedPlan → ℕ → Type 0
Passed test all k = filter test (drop k all) ≡ filter test all

module _ (test : OwnedPlan → Bool) (all : List OwnedPlan) (k : ℕ) (e : OwnedPlan) (at : slice_get all k ≡ Some e) (left : Passed test all k) where
  abbrev more : List OwnedPlan
  more = filter test (drop (suc k) all)

  found_at : test e ≡ true → slice_get (filter test all) 0 ≡ Some e
  found_at holds =
      ap (λ z. slice_get z 0) (sym left) ∙ ap (λ z. slice_get (filter test z) 0) (drop_at all k e at)
      ∙ ap (λ b. slice_get (cond b (e ∷ more) more) 0) holds

  pub first_at : test e ≡ true → (x : OwnedPlan) → slice_get all k ≡ Some x → slice_get (filter test all) 0 ≡ Some x
  first_at holds x is = found_at holds ∙ sym at ∙ is

  pub passed_at : test e ≡ false → Passed test all (k + 1)
  passed_at fails =
      let next : k + 1 ≡ suc k = omega arith in
      ap (λ j. filter test (drop j all)) next ∙ sym (ap (λ b. cond b (e ∷ more) more) fails) ∙ sym (ap (filter test) (drop_at all k e at)) ∙ left

-- the place that is found is that one
pub place_found : (plans : List OwnedPlan) (n : ℕ) (t : Trigger) (o : Option ℕ) (k : ℕ) → IfSome o (IsFirstAt plans n t) → o ≡ Some k → IsFirstAt plans n t k
place_found plans n t o k first is = subst (λ z. IfSome z (IsFirstAt plans n t)) is first

none_first : (ws : List (List Pair)) → any_match ws ≡ false → slice_get ws 0 ≡ None
none_first [] u = refl
none_first (w ∷ ws) u = absurd (false≢true (sym u))

module _ (n : ℕ) (t : Trigger) where
  record First (k : ℕ) (ps : List OwnedPlan) (p : OwnedPlan) (s : List Pair) : Type 0 where
    place : ℕ
    others : List Choice
    is : relevant_from k ps n t ≡ record { plan = k + place; subst = s } ∷ others
    at : slice_get ps place ≡ Some p

  unmatched : (q : OwnedPlan) → is_filed t.add t.kind t.lit q ≡ true → is_matched n t q ≡ false → first_way n q.plan.trigger t ≡ None
  unmatched q i u =
      ap (λ ws. slice_get ws 0) (filed_ways n q.plan.trigger t i) ∙ none_first (matches (renamed_literal n q.plan.trigger.lit) t.lit []) u

  first_filed : (k : ℕ) (ps : List OwnedPlan) (p : OwnedPlan) (s : List Pair) → slice_get (matched_plans ps n t) 0 ≡ Some p
      → first_way n p.plan.trigger t ≡ Some s → First k ps p s
  first_filed k [] p s f w = cc
  first_filed k (q ∷ qs) p s f w =
      go (is_filed t.add t.kind t.lit q) refl f (λ g. first_filed (k + 1) qs p s g w)
    where
      Behind : Type 0
      Behind = slice_get (matched_plans qs n t) 0 ≡ Some p → First (k + 1) qs p s

      more : List Choice
      more = relevant_from (k + 1) qs n t

      here : q ≡ p → First k (q ∷ qs) p s
      here same =
          let place : k ≡ k + 0 = omega arith in
          record {
            place = 0;
            others = more;
            is = ap (λ o. kept k o more) (ap (λ z. first_way n z.plan.trigger t) same ∙ w) ∙ ap (λ j. record { plan = j; subst = s } ∷ more) place;
            at = ap (λ z. Some z) same;
          }

      behind : first_way n q.plan.trigger t ≡ None → First (k + 1) qs p s → First k (q ∷ qs) p s
      behind none r =
          let place : (k + 1) + r.place ≡ k + suc r.place = omega arith in
          record {
            place = suc r.place;
            others = r.others;
            is = ap (λ o. kept k o more) none ∙ r.is ∙ ap (λ j. record { plan = j; subst = s } ∷ r.others) place;
            at = r.at;
          }

      pick : (c : Bool) → is_filed t.add t.kind t.lit q ≡ true → is_matched n t q ≡ c
          → slice_get (cond c (q ∷ matched_plans qs n t) (matched_plans qs n t)) 0 ≡ Some p → Behind → First k (q ∷ qs) p s
      pick true u v g rest = let same : q ≡ p = cc in here same
      pick false u v g rest = behind (unmatched q u v) (rest g)

      go : (b : Bool) → is_filed t.add t.kind t.lit q ≡ b
          → slice_get (filter (is_matched n t) (cond b (q ∷ filed_plans t.add t.kind t.lit qs) (filed_plans t.add t.kind t.lit qs))) 0 ≡ Some p
          → Behind → First k (q ∷ qs) p s
      go true u g rest = pick (is_matched n t q) u refl g rest
      go false u g rest = behind (no_way n q.plan.trigger t u) (rest g)

-- a plan without a context is chosen
no_context : (k : Surroundings) (p : Circumstance) (n : ℕ) (plan : Plan) (s : List Pair) (more : Chosen) → plan.context ≡ expr.True
    → choose_by n plan (sought k p n plan s) more ≡ chosen.Plan (renamed_means n plan) s p.number
no_context k p n plan s more e =
    let b = base (facts_of p.beliefs k.rules) k.solve in
    ap (λ c. choose_by n plan (decide k.budgets.tries (marks b k.budgets.depth (renamed_expr n c) s p.number)) more) e
    ∙ ap (λ c. choose_by n plan (decide k.budgets.tries (marks b k.budgets.depth c s p.number)) more) (fold_true Expr (renamed_step n))
    ∙ ap (λ f. choose_by n plan (decide k.budgets.tries (f s p.number)) more) (fold_true Meaning (marks_step b (deeper b k.budgets.depth)))

-- its means on the event's stack
pub is_taken : (k : Surroundings) (n : ℕ) (v : Event) (place : ℕ) (entry : OwnedPlan) (means : Means) (stack : List Means)
    → IsFirstAt k.plans n v.trigger place → IsOpenAt k.plans v.trigger place entry → means ≡ renamed_means n entry.plan
    → PushedBy means v.trigger v.stack stack → IsTaken k n v stack
is_taken k n v place entry means stack first open_at is done =
    let t = v.trigger in
    let s = bound_to means.trigger.lit.args t.lit.args in
    let filed : is_filed t.add t.kind t.lit entry ≡ true = passes (is_filed t.add t.kind t.lit) k.plans place entry open_at.0 in
    let one : matches (renamed_literal n entry.plan.trigger.lit) t.lit [] ≡ s ∷ [] = ap (λ z. matches z.trigger.lit t.lit []) (sym is) ∙ done.one in
    let way : first_way n entry.plan.trigger t ≡ Some s = ap (λ ws. slice_get ws 0) (filed_ways n entry.plan.trigger t filed ∙ one) in
    let r = first_filed n t 0 k.plans entry s (first entry open_at.0) way in
    let same : 0 + r.place ≡ r.place = omega arith in
    let at : plan_at k.plans (0 + r.place) ≡ Some entry.plan = ap (option_map (λ z. z.plan)) (ap (slice_get k.plans) same ∙ r.at) in
    record {
      first = record { plan = 0 + r.place; subst = s };
      others = r.others;
      means = renamed_means n entry.plan;
      subst = s;
      relevant_is = r.is;
      chosen_is = λ p. ap (λ o. choose_at k p n o s (choose k p n r.others)) at ∙ no_context k p n entry.plan s (choose k p n r.others) open_at.1;
      stack_is = done.stack ∙ ap (λ z. applied_means s z ∷ v.stack) is;
    }

-- the rows of such an event
pub taken_goes : (k : Surroundings) (peers : Peers) (p : Circumstance) (s : Sofar) (v : Event) (stack : List Means) (r : Row) → IsTaken k p.number v stack
    → r ≡ add_im_row v.stack → from_rel_pl k peers p s v ≡ from_taken k peers p s stack r
taken_goes k peers p s v stack r d is =
    let q = with_number p (p.number + 1) in
    let then = record s { lines = s.lines ++ line.Rule row.Rel1 ∷ [] } in
    let next = record s { lines = (s.lines ++ line.Rule row.Rel1 ∷ []) ++ line.Rule row.Appl1 ∷ [] } in
    ap (λ l. and_then s (rel_pl_on k p v l) (after_rel_pl k peers)) d.relevant_is
    ∙ ap (λ c. and_then then (appl_pl_on k q v c) (after_appl_pl k peers)) (d.chosen_is q)
    ∙ (λ i. from_stack k peers q next (sym d.stack_is i) (sym is i))
