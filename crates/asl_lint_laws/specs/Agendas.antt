-- What holds of the agenda of an agent all of whose goals are covered.
use Rattle.std.specs.Prelude.{◌≤◌, ℕ, List, [], ◌∷◌, IfSome}
use Rattle.std.specs.List.{AllByRecursion}
use Rattle.asl_term.specs.declared.syntax.AgentText.{AgentText}
use Rattle.asl_term.specs.declared.syntax.Expr.TheVariants as expr
use Rattle.asl_term.specs.declared.syntax.Formula.{Formula}
use Rattle.asl_term.specs.declared.syntax.Formula.TheVariants as formula
use Rattle.asl_term.specs.declared.syntax.Kind.{Kind}
use Rattle.asl_term.specs.declared.syntax.Kind.TheVariants as kind
use Rattle.asl_term.specs.declared.syntax.LiteralOf.{LiteralOf}
use Rattle.asl_term.specs.declared.syntax.Term.{Term}
use Rattle.asl_term.specs.declared.syntax.Trigger.{Trigger}
use Rattle.asl_lint_laws.specs.Fresh.{TermsBelow, LiteralBelow, ExprBelow}
use Rattle.asl_plans.specs.declared.entry.OwnedPlan.{OwnedPlan}
use Rattle.asl_plans.specs.Plans.{relevant}
use Rattle.asl_intend.specs.declared.entry.Means.{Means}
use Rattle.asl_intend.specs.declared.agenda.Ask.{Ask}
use Rattle.asl_intend.specs.declared.agenda.Event.{Event}
use Rattle.asl_intend.specs.declared.agenda.Agenda.{Agenda}
use Rattle.asl_lint.specs.Instances.{AreMerged}
use Rattle.asl_lint_laws.specs.Served.{IsServed, IsSome}
use Rattle.asl_lint_laws.specs.Linted.{IsLinted}

-- ---- ages

-- no list in a literal ends in a list
pub record IsMerged (g : LiteralOf Term) : Type 0 where
  pub args : AreMerged g.args
  pub annots : AreMerged g.annots

-- the variables of a literal have numbers below n, and its lists are merged
pub record IsOlder (n : ℕ) (g : LiteralOf Term) : Type 0 where
  pub below : LiteralBelow n g
  pub merged : IsMerged g

-- the variables of a formula have numbers below n
abbrev pub FormulaBelow : ℕ → Formula → Type 0
FormulaBelow n (formula.Achieve l) = LiteralBelow n l
FormulaBelow n (formula.Spawn l) = LiteralBelow n l
FormulaBelow n (formula.Test l) = LiteralBelow n l
FormulaBelow n (formula.Add l) = LiteralBelow n l
FormulaBelow n (formula.Del l) = LiteralBelow n l
FormulaBelow n (formula.Replace l) = LiteralBelow n l
FormulaBelow n (formula.Act l) = LiteralBelow n l
FormulaBelow n (formula.Inner c) = ExprBelow n (expr.Inner c)
FormulaBelow n (formula.Rel r) = ExprBelow n (expr.Rel r)

-- some plan is relevant for a trigger, by whatever number from n on plans are renamed
abbrev pub IsAnswered : List OwnedPlan → ℕ → Trigger → Type 0
IsAnswered plans n t = (m : ℕ) → n ≤ m → IsSome (relevant plans m t)

-- ---- an agent with these plans, where the sources of all agents are these texts, and its counter is n

module _ (names : List (List ℕ)) (texts : List AgentText) (plans : List OwnedPlan) where
  -- a goal of a body is served, and a call is one that lint holds to be so
  abbrev pub GoalServed : Formula → Type 0
  GoalServed (formula.Achieve g) = IsServed kind.Achieve plans g × IsMerged g
  GoalServed (formula.Spawn g) = IsServed kind.Achieve plans g × IsMerged g
  GoalServed (formula.Test g) = IsServed kind.Test plans g × IsMerged g
  GoalServed (formula.Inner c) = IsLinted names texts c
  GoalServed other = Unit {0}

  module _ (n : ℕ) where
    pub record FormulaServed (f : Formula) : Type 0 where
      pub below : FormulaBelow n f
      pub goal : GoalServed f

    pub record MeansServed (m : Means) : Type 0 where
      pub trigger : IsOlder n m.trigger.lit
      pub body : AllByRecursion FormulaServed m.body

    abbrev pub StackServed : List Means → Type 0
    StackServed = AllByRecursion MeansServed

    -- some plan is relevant for the event of a goal, now and later
    abbrev pub TakenServed : Trigger → Kind → Type 0
    TakenServed t kind.Belief = Unit {0}
    TakenServed t kind.Achieve = IsAnswered plans n t × IsMerged t.lit
    TakenServed t kind.Test = IsAnswered plans n t × IsMerged t.lit

    pub record EventServed (e : Event) : Type 0 where
      pub below : LiteralBelow n e.trigger.lit
      pub taken : TakenServed e.trigger e.trigger.kind
      pub stack : StackServed e.stack

    pub record AskServed (a : Ask) : Type 0 where
      pub answer : TermsBelow n (a.answer ∷ [])
      pub stack : StackServed a.stack

    pub record AgendaServed (a : Agenda) : Type 0 where
      pub events : AllByRecursion EventServed a.events
      pub running : AllByRecursion StackServed a.running
      pub acting : IfSome a.acting (λ x. StackServed x.stack)
      pub asks : AllByRecursion AskServed a.asks
