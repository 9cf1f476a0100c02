-- The plans that are filed for the failure of a goal: no other is relevant for that.
use Rattle.std.proofs.Common.{◌≡◌, ◌∙◌, ℕ, zero, suc, ◌+◌, Bool, true, false, ◌||◌, if◌then◌else◌, cond, ◌≤◌, drop, List, [], ◌∷◌, length, slice_get, Option, None, Some, is_some, refl, sym, ap, arith}
use Rattle.std.proofs.lemmas.List.{at_drop_more, length-map}
use Rattle.std.proofs.lemmas.Option.{get_or_from_slice_get, slice_get_past, slice_get_within}
use Rattle.std.specs.Option.{option_map}
use Rattle.asl_term.specs.declared.syntax.Term.{Term}
use Rattle.asl_term.specs.declared.syntax.Var.{Var}
use Rattle.asl_term.specs.declared.syntax.Trigger.{Trigger}
use Rattle.asl_plans.specs.declared.entry.OwnedPlan.{OwnedPlan}
use Rattle.asl_unify.specs.Puts.{put}
use Rattle.asl_unify.specs.Applied.{put_trigger}
use Rattle.asl_unify.specs.Matches.{matches}
use Rattle.asl_unify.specs.Renamed.{renamed_literal}
use Rattle.asl_plans.specs.Plans.{relevant_from, first_way, kept, ways}
use Rattle.asl_plans.specs.FiledPlaces.{filed_plans, has_trigger, is_filed}
use Rattle.asl_plans.proofs.Chosen.{filed_ways, no_way}
use Rattle.asl_plans.proofs.FiledPlans.{few_filed, passes}
use Rattle.asl_unify.specs.declared.subst.Pair.{Pair}
use Rattle.asl_intend.specs.declared.entry.Means.{Means}
use Rattle.asl_intend.proofs.Logs.{first_is_any}
use Rattle.asl_intend.specs.declared.agenda.Error.{Error}
use Rattle.asl_intend.specs.Stacks.{ComesFrom, trigger_at, matched_at}
use Rattle.asl_fail.specs.Fails.{failure, is_goal, any_choice, raised_trigger, raised_top, is_way, any_way, error_term}

module _ (n : ℕ) (e : Error) (h : Var → Term) (t : Trigger) where
  abbrev event : Trigger
  event = failure e (put_trigger h t)

  -- what is put into a goal, and the error behind it, leave its frame
  filed_left : (p : OwnedPlan) → is_filed event.add event.kind event.lit p ≡ is_filed false t.kind t.lit p
  filed_left p = ap (λ count. has_trigger false t.kind t.lit.neg t.lit.functor count p.plan.trigger) (length-map t.lit.args (put h))

  no_way_here : (p : OwnedPlan) → is_filed false t.kind t.lit p ≡ false → first_way n p.plan.trigger event ≡ None
  no_way_here p none = no_way n p.plan.trigger event (filed_left p ∙ none)

  ways_here : (p : OwnedPlan) → is_filed false t.kind t.lit p ≡ true → ways n p.plan.trigger event ≡ matches (renamed_literal n p.plan.trigger.lit) event.lit []
  ways_here p is = filed_ways n p.plan.trigger event (filed_left p ∙ is)

module _ (n : ℕ) (e : Error) (t : Trigger) (o : Option Trigger) (c : ComesFrom t o) where
  no_way_at : (p : OwnedPlan) → is_filed false t.kind t.lit p ≡ false → is_way n e p.plan.trigger o ≡ false
  no_way_at p none = ap (is_way n e p.plan.trigger) c.1 ∙ ap is_some (no_way_here n e c.0 t p none)

  -- a plan that is filed for it is relevant where it matches
  pub way_at : (p : OwnedPlan) → is_filed false t.kind t.lit p ≡ true
      → matched_at (renamed_literal n p.plan.trigger.lit) (error_term e ∷ []) o ≡ is_way n e p.plan.trigger o
  way_at p is =
      let lit = renamed_literal n p.plan.trigger.lit in
      ap (matched_at lit (error_term e ∷ [])) c.1
      ∙ sym (first_is_any (matches lit (failure e (put_trigger c.0 t)).lit []))
      ∙ ap (λ ms. is_some (slice_get ms 0)) (sym (ways_here n e c.0 t p is))
      ∙ sym (ap (is_way n e p.plan.trigger) c.1)

  -- the other plans are not relevant
  pub filed_way : (ps : List OwnedPlan) → any_way n e (filed_plans false t.kind t.lit ps) o ≡ any_way n e ps o
  filed_way [] = refl
  filed_way (p ∷ ps) = go (is_filed false t.kind t.lit p) refl (filed_way ps) where
    go : (b : Bool) → is_filed false t.kind t.lit p ≡ b → any_way n e (filed_plans false t.kind t.lit ps) o ≡ any_way n e ps o
        → any_way n e (cond b (p ∷ filed_plans false t.kind t.lit ps) (filed_plans false t.kind t.lit ps)) o
        ≡ (is_way n e p.plan.trigger o || any_way n e ps o)
    go true u r = ap (λ b. is_way n e p.plan.trigger o || b) r
    go false u r = r ∙ ap (λ b. b || any_way n e ps o) (sym (no_way_at p u))

-- the k-th plan is relevant, or one of those behind it
next_way : (n : ℕ) (e : Error) (ps : List OwnedPlan) (o : Option Trigger) (k : ℕ) (u : OwnedPlan) → slice_get ps k ≡ Some u
    → any_way n e (drop k ps) o ≡ (is_way n e u.plan.trigger o || any_way n e (drop (k + 1) ps) o)
next_way n e ps o k u at =
    at_drop_more (λ l. any_way n e l o) ps k u (slice_get_within ps k u at)
    ∙ ap (λ z. is_way n e z.plan.trigger o || any_way n e (drop (k + 1) ps) o) (get_or_from_slice_get ps k u u at)

none_behind : (ps : List OwnedPlan) (k : ℕ) → slice_get ps k ≡ None → drop k ps ≡ []
none_behind [] zero h = refl
none_behind [] (suc k) h = refl
none_behind (p ∷ ps) zero h = cc
none_behind (p ∷ ps) (suc k) h = none_behind ps k h

-- ---- among the plans that are filed for it, some of which were asked

module _ (n : ℕ) (e : Error) (t : Trigger) (o : Option Trigger) (c : ComesFrom t o) (ps : List OwnedPlan) (k : ℕ) where
  abbrev those : List OwnedPlan
  those = filed_plans false t.kind t.lit ps

  -- whether the k-th of them matches tells whether it is relevant
  matched_way : (u : OwnedPlan) (b : Bool) → slice_get those k ≡ Some u
      → b ≡ matched_at (renamed_literal n u.plan.trigger.lit) (error_term e ∷ []) o → is_way n e u.plan.trigger o ≡ b
  matched_way u b at m = sym (m ∙ way_at n e t o c u (passes (is_filed false t.kind t.lit) ps k u at))

  pub found_way : (u : OwnedPlan) → slice_get those k ≡ Some u → true ≡ matched_at (renamed_literal n u.plan.trigger.lit) (error_term e ∷ []) o
      → any_way n e (drop k those) o ≡ any_way n e ps o → true ≡ any_way n e ps o
  found_way u at m before =
      sym (sym before ∙ next_way n e those o k u at ∙ ap (λ b. b || any_way n e (drop (k + 1) those) o) (matched_way u true at m))

  pub later_way : (u : OwnedPlan) → slice_get those k ≡ Some u → false ≡ matched_at (renamed_literal n u.plan.trigger.lit) (error_term e ∷ []) o
      → any_way n e (drop k those) o ≡ any_way n e ps o → any_way n e (drop (k + 1) those) o ≡ any_way n e ps o
  later_way u at m before =
      sym (next_way n e those o k u at ∙ ap (λ b. b || any_way n e (drop (k + 1) those) o) (matched_way u false at m)) ∙ before

  pub last_way : slice_get those k ≡ None → any_way n e (drop k those) o ≡ any_way n e ps o → false ≡ any_way n e ps o
  last_way at before = sym (ap (λ l. any_way n e l o) (none_behind those k at)) ∙ before

  pub past_way : length ps ≤ k → any_way n e (drop k those) o ≡ any_way n e ps o → false ≡ any_way n e ps o
  past_way h = last_way (slice_get_past those k (let few = few_filed false t.kind t.lit ps in omega (arith, few, h)))

any_relevant : (n k : ℕ) (e : Error) (ps : List OwnedPlan) (t : Trigger) → any_choice (relevant_from k ps n (failure e t)) ≡ any_way n e ps (Some t)
any_relevant n k e [] t = refl
any_relevant n k e (p ∷ ps) t = go (first_way n p.plan.trigger (failure e t)) (any_relevant n (k + 1) e ps t) where
  go : (o : Option (List Pair)) → any_choice (relevant_from (k + 1) ps n (failure e t)) ≡ any_way n e ps (Some t)
      → any_choice (kept k o (relevant_from (k + 1) ps n (failure e t))) ≡ (is_some o || any_way n e ps (Some t))
  go None r = r
  go (Some s) r = refl

abbrev raised_of : List OwnedPlan → ℕ → Error → Option Trigger → Option Trigger
raised_of ps n e None = None
raised_of ps n e (Some t) = raised_trigger ps n e t

top_is : (ps : List OwnedPlan) (n : ℕ) (e : Error) (stack : List Means) → raised_top ps n e stack ≡ raised_of ps n e (trigger_at stack 0)
top_is ps n e [] = refl
top_is ps n e (m ∷ below) = refl

pub top_raised : (ps : List OwnedPlan) (n : ℕ) (e : Error) (stack : List Means) (t : Trigger) → ComesFrom t (trigger_at stack 0) → is_goal t ≡ true
    → any_way n e ps (trigger_at stack 0) ≡ true → option_map (failure e) (trigger_at stack 0) ≡ raised_top ps n e stack
top_raised ps n e stack t c g a =
    let f = failure e (put_trigger c.0 t) in
    ap (option_map (failure e)) c.1 ∙ sym (top_is ps n e stack ∙ ap (raised_of ps n e) c.1
    ∙ ap (λ b. if (if b then any_choice (relevant_from 0 ps n f) else false) then Some f else None) g
    ∙ ap (λ b. if b then Some f else None) (any_relevant n 0 e ps (put_trigger c.0 t) ∙ ap (any_way n e ps) (sym c.1) ∙ a))

pub top_not_raised : (ps : List OwnedPlan) (n : ℕ) (e : Error) (stack : List Means) → any_way n e ps (trigger_at stack 0) ≡ false
    → None ≡ raised_top ps n e stack
top_not_raised ps n e stack a = sym (top_is ps n e stack ∙ go (trigger_at stack 0) a) where
  go : (o : Option Trigger) → any_way n e ps o ≡ false → raised_of ps n e o ≡ None
  go None a = refl
  go (Some t) a = at (is_goal t) where
    at : (b : Bool) → (if (if b then any_choice (relevant_from 0 ps n (failure e t)) else false) then Some (failure e t) else None) ≡ None
    at false = refl
    at true = ap (λ b. if b then Some (failure e t) else None) (any_relevant n 0 e ps t ∙ a)

pub top_no_goal : (ps : List OwnedPlan) (n : ℕ) (e : Error) (stack : List Means) (t : Trigger) → ComesFrom t (trigger_at stack 0) → is_goal t ≡ false
    → None ≡ raised_top ps n e stack
top_no_goal ps n e stack t c g = sym (top_is ps n e stack ∙ ap (raised_of ps n e) c.1
    ∙ ap (λ b. if (if b then any_choice (relevant_from 0 ps n (failure e (put_trigger c.0 t))) else false) then Some (failure e (put_trigger c.0 t)) else None) g)
