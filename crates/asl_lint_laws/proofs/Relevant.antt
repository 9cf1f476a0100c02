-- Where some plan's trigger matches an event, some plan is relevant for it.
use Rattle.std.proofs.Common.{◌≡◌, ◌+◌, ℕ, Bool, true, false, ◌&&◌, eqb, if◌then◌else◌, List, [], ◌∷◌, length, Option, Some, None, slice_get, refl, sym, ap, ◌∙◌, subst}
use Rattle.std.proofs.lemmas.Bool.{false≢true}
use Rattle.asl_term.specs.declared.syntax.Kind.{Kind}
use Rattle.asl_term.specs.declared.syntax.LiteralOf.{LiteralOf}
use Rattle.asl_term.specs.declared.syntax.Plan.{Plan}
use Rattle.asl_term.specs.declared.syntax.Term.{Term}
use Rattle.asl_term.specs.declared.syntax.Trigger.{Trigger}
use Rattle.asl_unify.specs.declared.subst.Pair.{Pair}
use Rattle.asl_unify.specs.Compare.{same_sign}
use Rattle.asl_unify.specs.Renamed.{renamed_literal}
use Rattle.asl_unify.specs.Matches.{matches}
use Rattle.asl_plans.specs.declared.entry.OwnedPlan.{OwnedPlan}
use Rattle.asl_plans.specs.declared.library.Choice.{Choice}
use Rattle.asl_plans.specs.Plans.{alike, ways, first_way, kept, relevant_from}
use Rattle.asl_lint_laws.specs.Written.{IsApart, IsSourced}
use Rattle.asl_lint_laws.specs.Served.{SomeEntry, here, further, HasWritten, AreSource, Serves, IsServed, IsSome, goal_trigger, ServedIsRelevant}
use Rattle.asl_lint_laws.proofs.Instances.{values_of, frame_of}
use Rattle.asl_lint_laws.proofs.Matching.{Has, has_match}

kept_first : (k : ℕ) (ws : List (List Pair)) (more : List Choice) → Has ws → IsSome (kept k (slice_get ws 0) more)
kept_first k [] more h = absurd h
kept_first k (w ∷ ws) more h = tt

kept_rest : (k : ℕ) (o : Option (List Pair)) (more : List Choice) → IsSome more → IsSome (kept k o more)
kept_rest k None more h = h
kept_rest k (Some s) more h = tt

-- the first plan whose trigger matches is relevant
pub some_relevant : (k n : ℕ) (plans : List OwnedPlan) (event : Trigger) → SomeEntry (λ e. Has (ways n e.plan.trigger event)) plans → IsSome (relevant_from k plans n event)
some_relevant k n [] event h = elim h [ ]
some_relevant k n (p ∷ ps) event (here h) = kept_first k (ways n p.plan.trigger event) (relevant_from (k + 1) ps n event) h
some_relevant k n (p ∷ ps) event (further h) = kept_rest k (first_way n p.plan.trigger event) (relevant_from (k + 1) ps n event) (some_relevant (k + 1) n ps event h)

sign_true : (b : Bool) → b ≡ true → same_sign b true ≡ true
sign_true true e = refl
sign_true false e = absurd (false≢true e)

both_hold : (a b : Bool) → a ≡ true → b ≡ true → (a && b) ≡ true
both_hold a b e d = cc

module _ (n : ℕ) (k : Kind) (g : LiteralOf Term) (f : IsApart n g) (sourced : IsSourced g) where
  has_ways : (p : Plan) → Serves k g p → HasWritten p → Has (ways n p.trigger (goal_trigger k g))
  has_ways p s w =
      let same : alike p.trigger (goal_trigger k g) ≡ true = both_hold (same_sign p.trigger.add true) _ (sign_true p.trigger.add s.add) s.kind in
      let i = s.covered.instance in
      subst (λ b. Has (if b then matches (renamed_literal n p.trigger.lit) g [] else [])) (sym same)
      (has_match n p.trigger.lit g (values_of p.trigger.lit g i) w.args f sourced (frame_of p.trigger.lit g i) w.annots s.covered.any_source)

  some_ways : (plans : List OwnedPlan) → AreSource plans → IsServed k plans g → SomeEntry (λ e. Has (ways n e.plan.trigger (goal_trigger k g))) plans
  some_ways [] a s = elim s [ ]
  some_ways (p ∷ ps) a (here s) = here (has_ways p.plan s a.0)
  some_ways (p ∷ ps) a (further s) = further (some_ways ps a.1 s)

pub served_is_relevant : ServedIsRelevant
served_is_relevant plans k g n source served apart sourced =
    some_relevant 0 n plans (goal_trigger k g) (some_ways n k g apart sourced plans source served)
