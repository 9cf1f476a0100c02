-- What is left of an agenda where some of it goes.
use Rattle.std.proofs.Common.{◌≡◌, ℕ, Bool, true, false, eqb, cond, List, [], ◌∷◌, Some, subst}
use Rattle.std.specs.List.{AllByRecursion}
use Rattle.asl_term.specs.declared.syntax.AgentText.{AgentText}
use Rattle.asl_term.specs.declared.syntax.LiteralOf.{LiteralOf}
use Rattle.asl_term.specs.declared.syntax.Term.{Term}
use Rattle.asl_plans.specs.declared.entry.OwnedPlan.{OwnedPlan}
use Rattle.asl_intend.specs.declared.agenda.Agenda.{Agenda}
use Rattle.asl_intend.specs.declared.agenda.Ask.{Ask}
use Rattle.asl_intend.specs.Agendas.{ask_of, without_ask, without, without_intentions, without_wanted, without_desires}
use Rattle.asl_intend.specs.Stacks.{has_goal, names_goal}
use Rattle.asl_lint_laws.specs.Agendas.{StackServed, EventServed, AskServed, AgendaServed}

pub all_without : {A : Type 0} (P : A → Type 0) (f : A → Bool) (xs : List A) → AllByRecursion P xs → AllByRecursion P (without f xs)
all_without P f [] a = tt
all_without P f (x ∷ xs) a = go (f x) (all_without P f xs a.1) where
  go : (b : Bool) → AllByRecursion P (without f xs) → AllByRecursion P (cond b (without f xs) (x ∷ without f xs))
  go true later = later
  go false later = (a.0, later)

pub ask_at : (P : Ask → Type 0) (n : ℕ) (asks : List Ask) → AllByRecursion P asks → (a : Ask) → ask_of n asks ≡ Some a → P a
ask_at P n [] s a e = cc
ask_at P n (x ∷ asks) s a e = go (eqb x.number n) e (ask_at P n asks s.1 a) where
  go : (b : Bool) → cond b (Some x) (ask_of n asks) ≡ Some a → (ask_of n asks ≡ Some a → P a) → P a
  go true e later = let is : x ≡ a = cc in subst P is s.0
  go false e later = later e

pub asks_rest : (P : Ask → Type 0) (n : ℕ) (asks : List Ask) → AllByRecursion P asks → AllByRecursion P (without_ask n asks)
asks_rest P n [] s = tt
asks_rest P n (x ∷ asks) s = go (eqb x.number n) (asks_rest P n asks s.1) where
  go : (b : Bool) → AllByRecursion P (without_ask n asks) → AllByRecursion P (cond b asks (x ∷ without_ask n asks))
  go true later = s.1
  go false later = (s.0, later)

module _ (names : List (List ℕ)) (texts : List AgentText) (plans : List OwnedPlan) (n : ℕ) (g : LiteralOf Term) where
  pub intentions_served : (a : Agenda) → AgendaServed names texts plans n a → AgendaServed names texts plans n (without_intentions g a)
  intentions_served a s = record {
    events = all_without (EventServed names texts plans n) (λ e. has_goal g e.stack) a.events s.events;
    running = all_without (StackServed names texts plans n) (has_goal g) a.running s.running;
    acting = s.acting;
    asks = all_without (AskServed names texts plans n) (λ q. has_goal g q.stack) a.asks s.asks;
  }

  wanted_served : (a : Agenda) → AgendaServed names texts plans n a → AgendaServed names texts plans n (without_wanted g a)
  wanted_served a s = record {
    events = all_without (EventServed names texts plans n) (λ e. names_goal g e.trigger) a.events s.events;
    running = s.running;
    acting = s.acting;
    asks = s.asks;
  }

  pub desires_served : (a : Agenda) → AgendaServed names texts plans n a → AgendaServed names texts plans n (without_desires g a)
  desires_served a s = intentions_served (without_wanted g a) (wanted_served a s)
