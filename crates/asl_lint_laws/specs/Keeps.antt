-- What leaves an agenda so.
use Rattle.std.specs.Prelude.{◌≤◌, ℕ, List}
use Rattle.asl_term.specs.declared.syntax.AgentText.{AgentText}
use Rattle.asl_unify.specs.declared.subst.Pair.{Pair}
use Rattle.asl_lint_laws.specs.Fresh.{SubstBelow}
use Rattle.asl_plans.specs.declared.entry.OwnedPlan.{OwnedPlan}
use Rattle.asl_intend.specs.declared.entry.Means.{Means}
use Rattle.asl_intend.specs.declared.agenda.Agenda.{Agenda}
use Rattle.asl_intend.specs.declared.agenda.Error.{Error}
use Rattle.asl_intend.specs.Stacks.{bound}
use Rattle.asl_fail.specs.Fails.{fails}
use Rattle.asl_lint_laws.specs.Served.{AreSource}
use Rattle.asl_lint_laws.specs.Agendas.{StackServed, AgendaServed}

-- as the counter rises
abbrev pub CounterKeeps : Type 0
CounterKeeps =
    (names : List (List ℕ)) (texts : List AgentText) (plans : List OwnedPlan) (n m : ℕ) → n ≤ m → (a : Agenda) → AgendaServed names texts plans n a →
    AgendaServed names texts plans m a

-- a substitution put into a stack, whose variables are below the new counter
abbrev pub BoundKeeps : Type 0
BoundKeeps =
    (names : List (List ℕ)) (texts : List AgentText) (plans : List OwnedPlan) (n m : ℕ) → n ≤ m → (s : List Pair) (stack : List Means) → SubstBelow m s →
    StackServed names texts plans n stack → StackServed names texts plans m (bound s stack)

-- what fails raises at most an event for which some plan is relevant, now and later
abbrev pub FailureKeeps : Type 0
FailureKeeps =
    (names : List (List ℕ)) (texts : List AgentText) (plans : List OwnedPlan) → AreSource plans → (n : ℕ) (e : Error) (a : Agenda) (stack : List Means) →
    AgendaServed names texts plans n a → StackServed names texts plans n stack → AgendaServed names texts plans n (fails plans n e a stack).agenda
