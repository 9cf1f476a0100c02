-- What holds under a number holds under each later one.
use Rattle.std.proofs.Common.{◌≤◌, ℕ, List, [], ◌∷◌, Option, Some, None, IfSome, arith}
use Rattle.std.specs.List.{AllByRecursion}
use Rattle.asl_term.specs.declared.syntax.AgentText.{AgentText}
use Rattle.asl_term.specs.declared.syntax.Kind.{Kind}
use Rattle.asl_term.specs.declared.syntax.Kind.TheVariants as kind
use Rattle.asl_term.specs.declared.syntax.Formula.{Formula}
use Rattle.asl_term.specs.declared.syntax.Trigger.{Trigger}
use Rattle.asl_plans.specs.declared.entry.OwnedPlan.{OwnedPlan}
use Rattle.asl_intend.specs.declared.entry.Means.{Means}
use Rattle.asl_intend.specs.declared.agenda.Ask.{Ask}
use Rattle.asl_intend.specs.declared.agenda.Event.{Event}
use Rattle.asl_intend.specs.declared.agenda.Agenda.{Agenda}
use Rattle.asl_lint_laws.specs.Agendas.{FormulaServed, MeansServed, StackServed, TakenServed, EventServed, AskServed, AgendaServed}
use Rattle.asl_lint_laws.specs.Keeps.{CounterKeeps}
use Rattle.asl_lint_laws.proofs.Ages.{terms_later, literal_later, older_later, formula_later}

pub each_weaker : {A : Type 0} (P Q : A → Type 0) → ((x : A) → P x → Q x) → (xs : List A) → AllByRecursion P xs → AllByRecursion Q xs
each_weaker P Q f [] a = tt
each_weaker P Q f (x ∷ xs) a = (f x a.0, each_weaker P Q f xs a.1)

pub some_weaker : {A : Type 0} (P Q : A → Type 0) → ((x : A) → P x → Q x) → (o : Option A) → IfSome o P → IfSome o Q
some_weaker P Q f None a = tt
some_weaker P Q f (Some x) a = f x a

module _ (names : List (List ℕ)) (texts : List AgentText) (plans : List OwnedPlan) (n m : ℕ) (l : n ≤ m) where
  pub later_formula : (f : Formula) → FormulaServed names texts plans n f → FormulaServed names texts plans m f
  later_formula f s = record { below = formula_later n m l f s.below; goal = s.goal }

  pub later_means : (x : Means) → MeansServed names texts plans n x → MeansServed names texts plans m x
  later_means x s = record {
    trigger = older_later n m l x.trigger.lit s.trigger;
    body = each_weaker (FormulaServed names texts plans n) (FormulaServed names texts plans m) later_formula x.body s.body;
  }

  pub later_stack : (stack : List Means) → StackServed names texts plans n stack → StackServed names texts plans m stack
  later_stack stack s = each_weaker (MeansServed names texts plans n) (MeansServed names texts plans m) later_means stack s

  later_taken : (t : Trigger) (k : Kind) → TakenServed names texts plans n t k → TakenServed names texts plans m t k
  later_taken t kind.Belief s = tt
  later_taken t kind.Achieve s = (λ i j. s.0 i (omega (arith, l, j)), s.1)
  later_taken t kind.Test s = (λ i j. s.0 i (omega (arith, l, j)), s.1)

  pub later_event : (e : Event) → EventServed names texts plans n e → EventServed names texts plans m e
  later_event e s = record {
    below = literal_later n m l e.trigger.lit s.below;
    taken = later_taken e.trigger e.trigger.kind s.taken;
    stack = later_stack e.stack s.stack;
  }

  pub later_ask : (a : Ask) → AskServed names texts plans n a → AskServed names texts plans m a
  later_ask a s = record { answer = terms_later n m l (a.answer ∷ []) s.answer; stack = later_stack a.stack s.stack }

  pub later_agenda : (a : Agenda) → AgendaServed names texts plans n a → AgendaServed names texts plans m a
  later_agenda a s = record {
    events = each_weaker (EventServed names texts plans n) (EventServed names texts plans m) later_event a.events s.events;
    running = each_weaker (StackServed names texts plans n) (StackServed names texts plans m) later_stack a.running s.running;
    acting = some_weaker (λ x. StackServed names texts plans n x.stack) (λ x. StackServed names texts plans m x.stack) (λ x t. later_stack x.stack t) a.acting s.acting;
    asks = each_weaker (AskServed names texts plans n) (AskServed names texts plans m) later_ask a.asks s.asks;
  }

pub counter_keeps : CounterKeeps
counter_keeps names texts plans n m l a s = later_agenda names texts plans n m l a s
