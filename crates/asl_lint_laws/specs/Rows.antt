-- The rows for the current stack leave an agent so.
use Rattle.std.specs.Prelude.{◌+◌, ◌≤◌, ℕ, List}
use Rattle.asl_term.specs.declared.syntax.AgentText.{AgentText}
use Rattle.asl_term.specs.declared.syntax.Kind.{Kind}
use Rattle.asl_term.specs.declared.syntax.LiteralOf.{LiteralOf}
use Rattle.asl_term.specs.declared.syntax.Term.{Term}
use Rattle.asl_term.specs.declared.syntax.Trigger.{Trigger}
use Rattle.asl_lint_laws.specs.Fresh.{LiteralBelow}
use Rattle.asl_plans.specs.declared.entry.OwnedPlan.{OwnedPlan}
use Rattle.asl_plans.specs.Plans.{relevant}
use Rattle.asl_intend.specs.declared.entry.Means.{Means}
use Rattle.asl_intend.specs.Means.{applied_means}
use Rattle.asl_exec_circumstance.specs.Circumstance.{Surroundings, Circumstance, goal_event}
use Rattle.asl_exec.specs.Exec.{exec}
use Rattle.asl_exec.specs.Clear.{clear}
use Rattle.asl_exec_choose.specs.declared.chosen.Chosen.{Chosen}
use Rattle.asl_exec_choose.specs.declared.chosen.Chosen.TheVariants as chosen
use Rattle.asl_exec_choose.specs.Choosing.{choose}
use Rattle.asl_lint_laws.specs.Served.{AreSource, IsServed}
use Rattle.asl_lint_laws.specs.Agendas.{IsOlder, MeansServed, StackServed, EventServed}
use Rattle.asl_lint_laws.specs.RowsServed.{AroundServed, PartsServed, MadeServed}

-- the event of a goal with default source that a plan serves, over a stack that waits for it
abbrev pub GoalIsServed : Type 0
GoalIsServed =
    (names : List (List ℕ)) (texts : List AgentText) (plans : List OwnedPlan) → AreSource plans → (n : ℕ) (k : Kind) (g : LiteralOf Term) (stack : List Means) →
    IsServed k plans g → IsOlder n g → StackServed names texts plans n stack → EventServed names texts plans n (goal_event k g stack)

-- the rows of a formula
abbrev pub ExecKeeps : Type 0
ExecKeeps =
    (names : List (List ℕ)) (texts : List AgentText) (k : Surroundings) (p : Circumstance) (cur : List Means) → AroundServed names texts k →
    PartsServed names texts k.plans p → StackServed names texts k.plans p.number cur → MadeServed names texts k.plans p.number (exec k p cur)

-- those of what is left of a stack
abbrev pub ClearKeeps : Type 0
ClearKeeps =
    (names : List (List ℕ)) (texts : List AgentText) (k : Surroundings) (p : Circumstance) (cur : List Means) → AroundServed names texts k →
    PartsServed names texts k.plans p → StackServed names texts k.plans p.number cur → MadeServed names texts k.plans p.number (clear k p cur)

-- the means that an event gets, with their solution
abbrev pub ChosenServed : List (List ℕ) → List AgentText → List OwnedPlan → ℕ → Chosen → Type 0
ChosenServed names texts plans n (chosen.Plan means s m) = (n ≤ m) × MeansServed names texts plans m (applied_means s means)
ChosenServed names texts plans n other = Unit {0}

-- (the plans were renamed by the counter before it rose)
abbrev pub ChoiceKeeps : Type 0
ChoiceKeeps =
    (names : List (List ℕ)) (texts : List AgentText) (k : Surroundings) (p : Circumstance) (n : ℕ) (t : Trigger) → AroundServed names texts k →
    PartsServed names texts k.plans p → n + 1 ≤ p.number → LiteralBelow (n + 1) t.lit →
    ChosenServed names texts k.plans p.number (choose k p n (relevant k.plans n t))
