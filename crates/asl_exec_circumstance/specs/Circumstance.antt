-- What the rows for the current stack look at and change.
use Rattle.std.specs.Prelude.{ℕ, true, List, [], ◌∷◌, ◌++◌, None}
use Rattle.asl_term.specs.declared.syntax.LiteralOf.{LiteralOf}
use Rattle.asl_term.specs.declared.syntax.Term.{Term}
use Rattle.asl_term.specs.declared.syntax.Kind.{Kind}
use Rattle.asl_term.specs.declared.syntax.Trigger.{Trigger}
use Rattle.asl_plans.specs.declared.entry.OwnedPlan.{OwnedPlan}
use Rattle.asl_term.specs.declared.syntax.Clause.{Clause}
use Rattle.asl_intend.specs.declared.entry.Means.{Means}
use Rattle.asl_intend.specs.declared.agenda.Error.{Error}
use Rattle.asl_intend.specs.declared.agenda.Event.{Event}
use Rattle.asl_intend.specs.declared.agenda.Agenda.{Agenda}
use Rattle.asl_intend.specs.Agendas.{external}
use Rattle.asl_beliefs.specs.Sources.{with_source}
use Rattle.asl_resolve.specs.Base.{Solve}
use Rattle.asl_resolve.specs.declared.answers.Budgets.{Budgets}
use Rattle.asl_fail.specs.Fails.{fails, posted}
use Rattle.asl_exec_circumstance.specs.declared.parts.Surroundings.{Surroundings as HeldAround}
use Rattle.asl_exec_circumstance.specs.declared.parts.Circumstance.{Circumstance as HeldParts}
use Rattle.asl_exec_circumstance.specs.declared.rows.Row.{Row}
use Rattle.asl_exec_circumstance.specs.declared.went.Went.{Went}
use Rattle.asl_exec_circumstance.specs.declared.went.Went.TheVariants as went

-- the plans, which messages alone change, and what no row changes: the rules, what internal actions give, and what one search may use
pub record Surroundings : Type 0 where
  pub plans : List OwnedPlan
  pub rules : List Clause
  pub solve : Solve
  pub budgets : Budgets

abbrev pub around : List OwnedPlan → List Clause → Solve → Budgets → Surroundings
around plans rules solve budgets = record { plans = plans; rules = rules; solve = solve; budgets = budgets }

-- what contracts see of it, by what its internal actions give and by the rules of a base
abbrev pub seen_around : {A B : Type 0} → (A → Solve) → HeldAround A → (B → List Clause) → HeldParts B → Surroundings
seen_around solve k rules p = around k.lib.plans (rules p.beliefs) (solve k.actions) k.budgets

-- what rows change beside the current stack: the beliefs, the agenda, and the counter
pub record Circumstance : Type 0 where
  pub beliefs : List (LiteralOf Term)
  pub agenda : Agenda
  pub number : ℕ

abbrev pub parts : List (LiteralOf Term) → Agenda → ℕ → Circumstance
parts beliefs agenda number = record { beliefs = beliefs; agenda = agenda; number = number }

-- what contracts see of them, by the beliefs of a base
abbrev pub seen : {B : Type 0} → (B → List (LiteralOf Term)) → HeldParts B → Circumstance
seen beliefs p = parts (beliefs p.beliefs) p.agenda p.number

-- what a row leaves, and what it did
pub record Made : Type 0 where
  pub parts : Circumstance
  pub cur : List Means
  pub went : Went

abbrev pub made : Circumstance → List Means → Went → Made
made p cur w = record { parts = p; cur = cur; went = w }

abbrev pub with_agenda : Circumstance → Agenda → Circumstance
with_agenda p a = record { beliefs = p.beliefs; agenda = a; number = p.number }

abbrev pub with_number : Circumstance → ℕ → Circumstance
with_number p n = record { beliefs = p.beliefs; agenda = p.agenda; number = n }

-- an event goes last
abbrev pub post : Circumstance → Event → Circumstance
post p e = with_agenda p (posted p.agenda e)

-- a stack goes to the back of those that run
abbrev pub running : Circumstance → List Means → Circumstance
running p stack = with_agenda p (record p.agenda { running = p.agenda.running ++ stack ∷ [] })

-- what a goal is the event of
abbrev pub goal_trigger : Kind → LiteralOf Term → Trigger
goal_trigger k g = record { add = true; kind = k; lit = g }

-- the event of a goal with default source, over the stack that waits for it
abbrev pub goal_event : Kind → LiteralOf Term → List Means → Event
goal_event k g stack = record { trigger = goal_trigger k (with_source g); stack = stack; error = None }

-- the events of a change are external and go last
abbrev pub told : Agenda → List Trigger → Agenda
told a events = record a { events = a.events ++ external events }

-- the beliefs after a change
abbrev pub believing : Circumstance → List (LiteralOf Term) → List Trigger → Circumstance
believing p beliefs events = record { beliefs = beliefs; agenda = told p.agenda events; number = p.number }

-- a row in which a stack fails
abbrev pub failed : Surroundings → Row → Error → Circumstance → List Means → Made
failed k r e p stack =
    let f = fails k.plans p.number e p.agenda stack in
    made (with_agenda p f.agenda) [] (went.Failed r (record { error = e; fell = f.fell }))
