-- Goals that a plan serves, and events for which a plan is relevant.
use Rattle.std.specs.Prelude.{◌≡◌, ℕ, true, List, [], ◌∷◌}
use Rattle.std.specs.List.{AllByRecursion, list_any}
use Rattle.asl_term.specs.declared.syntax.Kind.{Kind}
use Rattle.asl_term.specs.declared.syntax.Kind.TheVariants as kind
use Rattle.asl_term.specs.declared.syntax.LiteralOf.{LiteralOf}
use Rattle.asl_term.specs.declared.syntax.Plan.{Plan}
use Rattle.asl_term.specs.declared.syntax.Term.{Term}
use Rattle.asl_term.specs.declared.syntax.Trigger.{Trigger}
use Rattle.asl_plans.specs.declared.entry.OwnedPlan.{OwnedPlan}
use Rattle.asl_plans.specs.declared.library.Choice.{Choice}
use Rattle.asl_plans.specs.Plans.{same_kind, relevant}
use Rattle.asl_plans.specs.Libraries.{opened}
use Rattle.asl_lint.specs.Instances.{IsCovered, AreTidy, AreMerged}
use Rattle.asl_lint.specs.Goals.{achieves, tests}
use Rattle.asl_lint_laws.specs.Written.{AreWritten, IsApart, IsSourced}

-- ---- plans

-- some entry of a library
pub data SomeEntry (P : OwnedPlan → Type 0) : List OwnedPlan → Type 0 where
  here : {e : OwnedPlan} {es : List OwnedPlan} → P e → SomeEntry P (e ∷ es)
  further : {e : OwnedPlan} {es : List OwnedPlan} → SomeEntry P es → SomeEntry P (e ∷ es)

-- the trigger of a plan as a reader makes it
pub record HasWritten (p : Plan) : Type 0 where
  pub args : AreWritten p.trigger.lit.args
  pub annots : AreWritten p.trigger.lit.annots

-- the plans of a library have such triggers
abbrev pub AreSource : List OwnedPlan → Type 0
AreSource = AllByRecursion (λ e. HasWritten e.plan)

-- a plan for +!h or +?h, with an h that covers a goal
pub record Serves (k : Kind) (g : LiteralOf Term) (p : Plan) : Type 0 where
  pub add : p.trigger.add ≡ true
  pub kind : same_kind p.trigger.kind k ≡ true
  pub covered : IsCovered p.trigger.lit g

abbrev pub IsServed : Kind → List OwnedPlan → LiteralOf Term → Type 0
IsServed k plans g = SomeEntry (λ e. Serves k g e.plan) plans

-- ---- relevance

abbrev pub IsSome : List Choice → Type 0
IsSome [] = ⊥
IsSome (c ∷ more) = Unit {0}

abbrev pub goal_trigger : Kind → LiteralOf Term → Trigger
goal_trigger k g = record { add = true; kind = k; lit = g }

-- some plan is relevant for the event of a goal that a plan serves
abbrev pub ServedIsRelevant : Type 0
ServedIsRelevant =
    (plans : List OwnedPlan) (k : Kind) (g : LiteralOf Term) (n : ℕ) → AreSource plans → IsServed k plans g → IsApart n g → IsSourced g →
    IsSome (relevant plans n (goal_trigger k g))

-- where some plan is relevant for an event under one number, some plan is under another
abbrev pub RelevanceStays : Type 0
RelevanceStays =
    (plans : List OwnedPlan) (t : Trigger) (n m : ℕ) → AreSource plans → IsApart m t.lit → IsSome (relevant plans n t) → IsSome (relevant plans m t)

-- ---- the plans of a source

-- an agent begins with plans that serve each goal that its source achieves or tests
abbrev pub SourceServes : Type 0
SourceServes =
    (plans : List Plan) (g : LiteralOf Term) → AllByRecursion HasWritten plans → AreMerged g.args →
    (achieves plans g ≡ true → IsServed kind.Achieve (opened plans) g) × (tests plans g ≡ true → IsServed kind.Test (opened plans) g)

-- and they have triggers as a reader makes them, where those of the source are so
abbrev pub SourceOpens : Type 0
SourceOpens = (plans : List Plan) → AllByRecursion HasWritten plans → AreSource (opened plans)
