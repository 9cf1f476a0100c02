-- The agenda: events, and stacks that are not the current one.
use Rattle.std.specs.Prelude.{ℕ, suc, ◌+◌, Bool, false, eqb, cond, List, [], ◌∷◌, map, Option, None, Some}
use Rattle.asl_term.specs.declared.syntax.LiteralOf.{LiteralOf}
use Rattle.asl_term.specs.declared.syntax.Term.{Term}
use Rattle.asl_term.specs.declared.syntax.Trigger.{Trigger}
use Rattle.asl_intend.specs.declared.agenda.Event.{Event}
use Rattle.asl_intend.specs.declared.agenda.Ask.{Ask}
use Rattle.asl_intend.specs.declared.agenda.Agenda.{Agenda}
use Rattle.asl_intend.specs.Stacks.{names_goal, has_goal}

-- an event without a stack
abbrev pub external_event : Trigger → Event
external_event t = record { trigger = t; stack = []; error = None }

abbrev pub external : List Trigger → List Event
external = map external_event

-- rule: the first agenda: an external event of each trigger, and no stack
abbrev pub opening : List Trigger → Agenda
opening first = record { events = external first; running = []; acting = None; asks = [] }

-- the first ask of a number, and the others

abbrev pub ask_of : ℕ → List Ask → Option Ask
ask_of n [] = None
ask_of n (a ∷ asks) = cond (eqb a.number n) (Some a) (ask_of n asks)

abbrev pub without_ask : ℕ → List Ask → List Ask
without_ask n [] = []
without_ask n (a ∷ asks) = cond (eqb a.number n) asks (a ∷ without_ask n asks)

-- its place, or the number of asks
abbrev pub ask_place : ℕ → List Ask → ℕ
ask_place n [] = 0
ask_place n (a ∷ asks) = cond (eqb a.number n) 0 (suc (ask_place n asks))

-- a list without what passes a test, and how much passes it

abbrev pub without : {A : Type 0} → (A → Bool) → List A → List A
without p [] = []
without p (x ∷ xs) = cond (p x) (without p xs) (x ∷ without p xs)

abbrev pub count : {A : Type 0} → (A → Bool) → List A → ℕ
count p [] = 0
count p (x ∷ xs) = cond (p x) (1 + count p xs) (count p xs)

abbrev pub passes_at : {A : Type 0} → (A → Bool) → Option A → Bool
passes_at p None = false
passes_at p (Some x) = p x

-- the stacks that have a goal which g names: of events, those that run, and those that wait for an answer

-- rule .drop_intention: without the stacks that have a goal which g names: of events, those that run, and those that wait for an answer
abbrev pub without_intentions : LiteralOf Term → Agenda → Agenda
without_intentions g a = record {
  events = without (λ e. has_goal g e.stack) a.events;
  running = without (has_goal g) a.running;
  acting = a.acting;
  asks = without (λ q. has_goal g q.stack) a.asks;
}

abbrev pub intentions : LiteralOf Term → Agenda → ℕ
intentions g a = count (λ e. has_goal g e.stack) a.events + count (has_goal g) a.running + count (λ q. has_goal g q.stack) a.asks

-- the events of a goal that g names

abbrev pub without_wanted : LiteralOf Term → Agenda → Agenda
without_wanted g a = record a { events = without (λ e. names_goal g e.trigger) a.events }

-- rule .drop_desire: without the events of a goal that g names, and then without such stacks
abbrev pub without_desires : LiteralOf Term → Agenda → Agenda
without_desires g a = without_intentions g (without_wanted g a)

abbrev pub desires : LiteralOf Term → Agenda → ℕ
desires g a = count (λ e. names_goal g e.trigger) a.events + intentions g (without_wanted g a)
