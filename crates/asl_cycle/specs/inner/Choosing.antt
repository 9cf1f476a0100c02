-- What the search for an applicable plan promises the step behind it.
use Rattle.std.specs.Prelude.{◌≡◌, ℕ, Bool, ◌+◌, ◌≤◌, List, [], ◌∷◌, ◌++◌, Some, slice_get}
use Rattle.std.specs.List.{filter}
use Rattle.asl_term.specs.declared.syntax.Expr.TheVariants as expr
use Rattle.asl_term.specs.declared.syntax.Trigger.{Trigger}
use Rattle.asl_unify.specs.declared.subst.Pair.{Pair}
use Rattle.asl_unify.specs.Matches.{matches}
use Rattle.asl_unify.specs.Renamed.{renamed_literal}
use Rattle.asl_plans.specs.declared.entry.OwnedPlan.{OwnedPlan}
use Rattle.asl_plans.specs.declared.library.Choice.{Choice}
use Rattle.asl_plans.specs.FiledPlaces.{filed_plans}
use Rattle.asl_plans.specs.Plans.{relevant}
use Rattle.asl_intend.specs.declared.agenda.Event.{Event}
use Rattle.asl_intend.specs.declared.entry.Means.{Means}
use Rattle.asl_intend.specs.Means.{applied_means}
use Rattle.asl_intend.specs.Stacks.{any_match}
use Rattle.asl_exec_circumstance.specs.Circumstance.{Surroundings, Circumstance, running, with_number}
use Rattle.asl_exec_circumstance.specs.declared.peers.Peers.{Peers}
use Rattle.asl_exec_circumstance.specs.declared.rows.Row.{Row}
use Rattle.asl_exec_circumstance.specs.declared.rows.Row.TheVariants as row
use Rattle.asl_exec_choose.specs.declared.chosen.Chosen.TheVariants as chosen
use Rattle.asl_exec_choose.specs.Choosing.{choose}
use Rattle.asl_cycle.specs.declared.config.Applied.{Applied}
use Rattle.asl_cycle.specs.declared.config.Applied.TheVariants as applied
use Rattle.asl_cycle.specs.declared.rows.Sofar.{Sofar}
use Rattle.asl_cycle.specs.declared.rows.TraceLine.TheVariants as line
use Rattle.asl_cycle.specs.Cycle.{Ran, from_sel_int}

-- the next fresh number of what was chosen is at most that
abbrev pub AppliedAtMost : ℕ → Applied → Type 0
AppliedAtMost most (applied.Plan i) = i.next ≤ most
AppliedAtMost most other = Unit {0}

-- whether the trigger of a plan, renamed, matches that of an event
abbrev pub is_matched : ℕ → Trigger → OwnedPlan → Bool
is_matched n t e = any_match (matches (renamed_literal n e.plan.trigger.lit) t.lit [])

-- the plans of the sign, kind and frame of a trigger that match it
abbrev pub matched_plans : List OwnedPlan → ℕ → Trigger → List OwnedPlan
matched_plans plans n t = filter (is_matched n t) (filed_plans t.add t.kind t.lit plans)

-- the k-th plan of the sign, kind and frame of a trigger is the first of these
abbrev pub IsFirstAt : List OwnedPlan → ℕ → Trigger → ℕ → Type 0
IsFirstAt plans n t k = (e : OwnedPlan) → slice_get (filed_plans t.add t.kind t.lit plans) k ≡ Some e → slice_get (matched_plans plans n t) 0 ≡ Some e

-- it is this one, which has no context
abbrev pub IsOpenAt : List OwnedPlan → Trigger → ℕ → OwnedPlan → Type 0
IsOpenAt plans t k e = (slice_get (filed_plans t.add t.kind t.lit plans) k ≡ Some e) × (e.plan.context ≡ expr.True)

-- the first relevant plan of an event is chosen whatever is believed, and its means are on the event's stack
pub record IsTaken (k : Surroundings) (n : ℕ) (v : Event) (stack : List Means) : Type 0 where
  pub first : Choice
  pub others : List Choice
  pub means : Means
  pub subst : List Pair
  pub relevant_is : relevant k.plans n v.trigger ≡ first ∷ others
  pub chosen_is : (p : Circumstance) → choose k p n (first ∷ others) ≡ chosen.Plan means subst p.number
  pub stack_is : stack ≡ applied_means subst means ∷ v.stack

-- the cycle of means that are on the stack of their event already, from the row SelAppl on, with the row by which they are there
abbrev pub from_stack : Surroundings → Peers → Circumstance → Sofar → List Means → Row → Ran
from_stack k peers p s stack r = from_sel_int k peers (running p stack) (record s { lines = (s.lines ++ line.Rule row.SelAppl ∷ []) ++ line.Rule r ∷ [] })

-- the same from the row RelPl on
abbrev pub from_taken : Surroundings → Peers → Circumstance → Sofar → List Means → Row → Ran
from_taken k peers p s stack r = from_stack k peers (with_number p (p.number + 1))
    (record s { lines = (s.lines ++ line.Rule row.Rel1 ∷ []) ++ line.Rule row.Appl1 ∷ [] }) stack r
