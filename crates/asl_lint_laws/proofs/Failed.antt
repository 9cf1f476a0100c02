-- What every row may leave: a stack that fails, events of beliefs, a head that is done or replaced.
use Rattle.std.proofs.Common.{◌≤◌, ℕ, Bool, true, false, cond, List, [], ◌∷◌, ◌++◌, drop, sym, subst, arith}
use Rattle.std.specs.List.{AllByRecursion}
use Rattle.asl_term.specs.declared.syntax.AgentText.{AgentText}
use Rattle.asl_term.specs.declared.syntax.Formula.{Formula}
use Rattle.asl_term.specs.declared.syntax.Trigger.{Trigger}
use Rattle.asl_unify.specs.Applied.{merged_formula}
use Rattle.asl_lint_laws.specs.Fresh.{late}
use Rattle.asl_plans.specs.declared.entry.OwnedPlan.{OwnedPlan}
use Rattle.asl_intend.specs.declared.entry.Means.{Means}
use Rattle.asl_intend.specs.declared.agenda.Agenda.{Agenda}
use Rattle.asl_intend.specs.declared.agenda.Error.{Error}
use Rattle.asl_intend.specs.declared.agenda.Event.{Event}
use Rattle.asl_intend.specs.Agendas.{external, external_event}
use Rattle.asl_intend.specs.Stacks.{replaced, with_head, without_head}
use Rattle.asl_beliefs.specs.Changes.{Changed}
use Rattle.asl_exec_circumstance.specs.declared.rows.Row.{Row}
use Rattle.asl_exec_circumstance.specs.Circumstance.{Surroundings, Circumstance, Made, with_number, post, told, believing, failed}
use Rattle.asl_lint_laws.specs.Served.{AreSource}
use Rattle.asl_lint_laws.specs.Agendas.{FormulaServed, StackServed, TakenServed, EventServed, AgendaServed}
use Rattle.asl_lint_laws.proofs.Failing.{all_last, fails_served, posted_served}
use Rattle.asl_lint_laws.proofs.Later.{later_agenda}
use Rattle.asl_lint_laws.specs.RowsServed.{IsOther, PlanServed, AroundServed, PartsServed, MadeServed}
use Rattle.asl_lint_laws.proofs.Beliefs.{IsTold, AreTold, IsChange, all_append}
use Rattle.asl_lint_laws.proofs.Grounds.{literal_ground}

-- the triggers of plans that are served are as a reader makes them
sources : (names : List (List ℕ)) (texts : List AgentText) (plans lib : List OwnedPlan) → AllByRecursion (λ e. PlanServed names texts plans e.plan) lib → AreSource lib
sources names texts plans [] a = tt
sources names texts plans (e ∷ es) a = (a.0.trigger, sources names texts plans es a.1)

pub are_source : (names : List (List ℕ)) (texts : List AgentText) (k : Surroundings) → AroundServed names texts k → AreSource k.plans
are_source names texts k a = sources names texts k.plans k.plans a.plans

pub stay : (n : ℕ) → n ≤ n
stay n = omega arith

-- ---- heads

module _ (names : List (List ℕ)) (texts : List AgentText) (plans : List OwnedPlan) (n : ℕ) where
  abbrev Formulas : List Formula → Type 0
  Formulas = AllByRecursion (FormulaServed names texts plans n)

  body_rest : (body : List Formula) → Formulas body → Formulas (drop 1 body)
  body_rest [] b = tt
  body_rest (f ∷ body) b = b.1

  pub stack_rest : (cur : List Means) → StackServed names texts plans n cur → StackServed names texts plans n (without_head cur)
  stack_rest [] c = tt
  stack_rest (m ∷ below) c = (record { trigger = c.0.trigger; body = body_rest m.body c.0.body }, c.1)

  body_with : (f : Formula) (body : List Formula) → FormulaServed names texts plans n f → Formulas body → Formulas (replaced f body)
  body_with f [] s b = tt
  body_with f (x ∷ xs) s b = (s, b.1)

  pub stack_with : (f : Formula) (cur : List Means) → FormulaServed names texts plans n (merged_formula f) → StackServed names texts plans n cur
      → StackServed names texts plans n (with_head f cur)
  stack_with f [] s c = tt
  stack_with f (m ∷ below) s c = (record { trigger = c.0.trigger; body = body_with (merged_formula f) m.body s c.0.body }, c.1)

  -- ---- events of beliefs

  pub event_told : (t : Trigger) → IsTold t → EventServed names texts plans n (external_event t)
  event_told t i = record {
    below = literal_ground (late n) t.lit i.ground;
    taken = subst (λ b. TakenServed names texts plans n t b) (sym i.kind) tt;
    stack = tt;
  }

  events_told : (ts : List Trigger) → AreTold ts → AllByRecursion (EventServed names texts plans n) (external ts)
  events_told [] a = tt
  events_told (t ∷ ts) a = (event_told t a.0, events_told ts a.1)

  pub agenda_told : (a : Agenda) (events : List Trigger) → AgendaServed names texts plans n a → AreTold events → AgendaServed names texts plans n (told a events)
  agenda_told a events s t = record {
    events = all_append (EventServed names texts plans n) a.events (external events) s.events (events_told events t);
    running = s.running;
    acting = s.acting;
    asks = s.asks;
  }

  -- a stack goes to the back of those that run
  pub agenda_running : (a : Agenda) (stack : List Means) → AgendaServed names texts plans n a → StackServed names texts plans n stack
      → AgendaServed names texts plans n (record a { running = a.running ++ stack ∷ [] })
  agenda_running a stack s t = record {
    events = s.events;
    running = all_last (StackServed names texts plans n) a.running stack s.running t;
    acting = s.acting;
    asks = s.asks;
  }

module _ (names : List (List ℕ)) (texts : List AgentText) (plans : List OwnedPlan) where
  pub parts_believing : (p : Circumstance) (c : Changed) → PartsServed names texts plans p → IsChange c → PartsServed names texts plans (believing p c.beliefs c.events)
  parts_believing p c s i = record { beliefs = i.beliefs; agenda = agenda_told names texts plans p.number p.agenda c.events s.agenda i.events }

  pub parts_later : (p : Circumstance) (m : ℕ) → p.number ≤ m → PartsServed names texts plans p → PartsServed names texts plans (with_number p m)
  parts_later p m l s = record { beliefs = s.beliefs; agenda = later_agenda names texts plans p.number m l p.agenda s.agenda }

  pub parts_posted : (p : Circumstance) (v : Event) → PartsServed names texts plans p → EventServed names texts plans p.number v → PartsServed names texts plans (post p v)
  parts_posted p v s e = record { beliefs = s.beliefs; agenda = posted_served names texts plans p.number p.agenda v s.agenda e }

-- ---- a row that fails, and one of two rows

module _ (names : List (List ℕ)) (texts : List AgentText) (k : Surroundings) (around : AroundServed names texts k) where
  pub failed_served : (r : Row) → IsOther r → (e : Error) (p : Circumstance) (cur : List Means) → PartsServed names texts k.plans p → StackServed names texts k.plans p.number cur
      → MadeServed names texts k.plans p.number (failed k r e p cur)
  failed_served r o e p cur s c = record {
    number = stay p.number;
    parts = record { beliefs = s.beliefs; agenda = fails_served names texts k.plans (are_source names texts k around) p.number e p.agenda cur s.agenda c };
    cur = tt;
    went = o;
  }

  pub either : (n : ℕ) (b : Bool) (x y : Made) → MadeServed names texts k.plans n x → MadeServed names texts k.plans n y → MadeServed names texts k.plans n (cond b x y)
  either n true x y s t = s
  either n false x y s t = t
