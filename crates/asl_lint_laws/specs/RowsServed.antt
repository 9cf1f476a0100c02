-- What holds of an agent all of whose goals are covered, between its rows.
use Rattle.std.specs.Prelude.{◌≡◌, ◌≤◌, ℕ, Bool, true, false, List, Ok}
use Rattle.std.specs.List.{AllByRecursion}
use Rattle.asl_term.specs.declared.syntax.AgentText.{AgentText}
use Rattle.asl_term.specs.declared.syntax.CallOf.{CallOf}
use Rattle.asl_term.specs.declared.syntax.Expr.{Expr}
use Rattle.asl_term.specs.declared.syntax.Expr.TheVariants as expr
use Rattle.asl_term.specs.declared.syntax.Plan.{Plan}
use Rattle.asl_unify.specs.Facts.{Rule}
use Rattle.asl_unify.specs.Settling.{settle_call}
use Rattle.asl_lint_laws.specs.Fresh.{ExprBelow, FactBelow, SolvesBelow}
use Rattle.asl_plans.specs.declared.entry.OwnedPlan.{OwnedPlan}
use Rattle.asl_exec_circumstance.specs.declared.rows.Row.{Row}
use Rattle.asl_exec_circumstance.specs.declared.rows.Row.TheVariants as row
use Rattle.asl_exec_circumstance.specs.declared.went.Went.{Went}
use Rattle.asl_exec_circumstance.specs.declared.went.Went.TheVariants as went
use Rattle.asl_exec_circumstance.specs.Circumstance.{Surroundings, Circumstance, Made}
use Rattle.asl_lint_laws.specs.Served.{HasWritten}
use Rattle.asl_lint_laws.specs.Linted.{IsLinted}
use Rattle.asl_lint_laws.specs.Read.{AreGround}
use Rattle.asl_lint_laws.specs.Agendas.{FormulaServed, StackServed, AgendaServed}

-- the row of an event of a goal for which no plan is relevant
abbrev pub is_rel3 : Row → Bool
is_rel3 row.Rel3 = true
is_rel3 other = false

-- a row is another one
abbrev pub IsOther : Row → Type 0
IsOther r = is_rel3 r ≡ false

module _ (names : List (List ℕ)) (texts : List AgentText) where
  -- a plan of a source, whose variables have no number
  pub record PlanServed (plans : List OwnedPlan) (p : Plan) : Type 0 where
    pub trigger : HasWritten p
    pub context : ExprBelow 1 p.context
    pub body : AllByRecursion (FormulaServed names texts plans 1) p.body

  abbrev pub PlansServed : List OwnedPlan → Type 0
  PlansServed plans = AllByRecursion (λ e. PlanServed plans e.plan) plans

  -- what rows look at
  pub record AroundServed (k : Surroundings) : Type 0 where
    pub plans : PlansServed k.plans
    pub rules : AllByRecursion (λ c. FactBelow (Rule c)) k.rules
    pub solve : SolvesBelow k.solve

  module _ (plans : List OwnedPlan) where
    -- what rows change
    pub record PartsServed (p : Circumstance) : Type 0 where
      pub beliefs : AreGround p.beliefs
      pub agenda : AgendaServed names texts plans p.number p.agenda

    -- a call that is to be done comes from one that lint holds, and is settled
    pub record CallServed (n : ℕ) (c : CallOf Expr) : Type 0 where
      pub below : ExprBelow n (expr.Inner c)
      pub source : CallOf Expr
      pub linted : IsLinted names texts source
      pub settled : settle_call source ≡ Ok c

    abbrev pub WentServed : ℕ → Went → Type 0
    WentServed n (went.Row r) = IsOther r
    WentServed n (went.Failed r fall) = IsOther r
    WentServed n (went.Spent r b) = IsOther r
    WentServed n (went.Outer c) = CallServed n c
    WentServed n (went.Say text) = Unit {0}
    WentServed n (went.Action l) = Unit {0}

    -- what a row leaves, where the counter was n before
    pub record MadeServed (n : ℕ) (m : Made) : Type 0 where
      pub number : n ≤ m.parts.number
      pub parts : PartsServed m.parts
      pub cur : StackServed names texts plans m.parts.number m.cur
      pub went : WentServed m.parts.number m.went
