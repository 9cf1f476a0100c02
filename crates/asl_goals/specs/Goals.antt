-- Stacks that have a goal which a literal names: the first of them, and what becomes of each.
use Rattle.std.specs.Prelude.{Bool, cond, List, [], ◌∷◌, ◌++◌, Option, None, Some}
use Rattle.asl_term.specs.declared.syntax.LiteralOf.{LiteralOf}
use Rattle.asl_term.specs.declared.syntax.Term.{Term}
use Rattle.asl_unify.specs.declared.subst.Pair.{Pair}
use Rattle.asl_intend.specs.declared.entry.Means.{Means}
use Rattle.asl_intend.specs.declared.agenda.Event.{Event}
use Rattle.asl_intend.specs.declared.agenda.Ask.{Ask}
use Rattle.asl_intend.specs.declared.agenda.Agenda.{Agenda}
use Rattle.asl_intend.specs.declared.agenda.Error.TheVariants as error
use Rattle.asl_intend.specs.Stacks.{names_goal, goal_match}
use Rattle.asl_exec_circumstance.specs.declared.rows.Row.TheVariants as row
use Rattle.asl_exec_circumstance.specs.declared.rows.Fall.{Fall}
use Rattle.asl_exec_circumstance.specs.declared.went.Went.{Went}
use Rattle.asl_exec_circumstance.specs.declared.went.Went.TheVariants as went
use Rattle.asl_exec_circumstance.specs.Circumstance.{Surroundings, Circumstance, Made, with_agenda, failed}
use Rattle.asl_exec_circumstance.specs.Emptied.{emptied}
use Rattle.asl_goals.specs.declared.sweep.Way.{Way}
use Rattle.asl_goals.specs.declared.sweep.Way.TheVariants as way

-- the first of two that is there
abbrev pub or_else : {A : Type 0} → Option A → Option A → Option A
or_else (Some x) y = Some x
or_else None y = y

-- the first that a list gives
abbrev pub first_of : {A B : Type 0} → (A → Option B) → List A → Option B
first_of f [] = None
first_of f (x ∷ xs) = or_else (f x) (first_of f xs)

-- ---- `.intend` and `.desire`: the first match

-- the first match with a goal of a stack, from its top
abbrev pub stack_match : LiteralOf Term → List Means → Option (List Pair)
stack_match g = first_of (λ m. goal_match g m.trigger)

-- that of an event: of its stack, and for a desire of its own goal before
abbrev pub event_match : (desired : Bool) → LiteralOf Term → Event → Option (List Pair)
event_match desired g e = or_else (cond desired (goal_match g e.trigger) None) (stack_match g e.stack)

-- rule .intend, .desire: the first match in the order running, events, asks, the current stack
abbrev pub first_goal : (desired : Bool) → LiteralOf Term → Agenda → List Means → Option (List Pair)
first_goal desired g a cur =
    or_else (first_of (stack_match g) a.running)
    (or_else (first_of (event_match desired g) a.events)
    (or_else (first_of (λ q. stack_match g q.stack) a.asks)
    (stack_match g cur)))

-- ---- `.succeed_goal` and `.fail_goal`: one fold over the stacks

-- rule: a stack from its lowest means of a goal that g names, those above it popped; None where it has none
abbrev pub from_lowest : LiteralOf Term → List Means → Option (List Means)
from_lowest g [] = None
from_lowest g (m ∷ below) = or_else (from_lowest g below) (cond (names_goal g m.trigger) (Some (m ∷ below)) None)

-- rule .succeed_goal, .fail_goal: succeeding makes the row of Clr as if the body of that means were empty; failing makes the stack fail
abbrev pub treated : Surroundings → Way → Circumstance → List Means → Made
treated k way.Succeed p stack = emptied k p stack
treated k way.Fail p stack = failed k row.IaFail error.IaFailed p stack

abbrev pub falls_of : Went → List Fall
falls_of (went.Failed r fall) = fall ∷ []
falls_of other = []

-- what is left of some of a list, and the stacks that failed
pub record Swept (S : Type 0) : Type 0 where
  pub parts : Circumstance
  pub left : List S
  pub falls : List Fall

abbrev pub swept : {S : Type 0} → Circumstance → List S → List Fall → Swept S
swept p left falls = record { parts = p; left = left; falls = falls }

-- one after another
abbrev pub sweep : {S : Type 0} → (Circumstance → S → Swept S) → Circumstance → List S → Swept S
sweep one p [] = swept p [] []
sweep one p (x ∷ more) =
    let a = one p x in
    let b = sweep one a.parts more in
    swept b.parts (a.left ++ b.left) (a.falls ++ b.falls)

abbrev pub untouched : {S : Type 0} → Circumstance → S → Swept S
untouched p x = swept p (x ∷ []) []

abbrev pub with_running : Circumstance → List (List Means) → Circumstance
with_running p stacks = with_agenda p (record p.agenda { running = stacks })

abbrev pub with_events : Circumstance → List Event → Circumstance
with_events p events = with_agenda p (record p.agenda { events = events })

abbrev pub with_asks : Circumstance → List Ask → Circumstance
with_asks p asks = with_agenda p (record p.agenda { asks = asks })

-- what is left of a stack, where something is
abbrev pub what_is_left : List Means → List (List Means)
what_is_left [] = []
what_is_left (m ∷ below) = (m ∷ below) ∷ []

-- it goes to the back of those that run
abbrev pub to_back : Circumstance → List Means → Circumstance
to_back p stack = with_running p (p.agenda.running ++ what_is_left stack)

module _ (k : Surroundings) (w : Way) (g : LiteralOf Term) where
  -- what is left of a stack that runs keeps its place
  abbrev pub in_place : Circumstance → List Means → Option (List Means) → Swept (List Means)
  in_place p stack None = untouched p stack
  in_place p stack (Some cut) = let x = treated k w p cut in swept x.parts (what_is_left x.cur) (falls_of x.went)

  -- the event or the ask goes, and what is left of its stack to the back of those that run
  abbrev pub taken_out : {S : Type 0} → Circumstance → S → Option (List Means) → Swept S
  taken_out p x None = untouched p x
  taken_out p x (Some cut) = let y = treated k w p cut in swept (to_back y.parts y.cur) [] (falls_of y.went)

  -- the stacks that run
  abbrev pub sweep_running : Circumstance → Swept (List Means)
  sweep_running p = sweep (λ q stack. in_place q stack (from_lowest g stack)) (with_running p []) p.agenda.running

  -- those of events. What fails meanwhile is posted behind the events that stay
  abbrev pub sweep_events : Circumstance → Swept Event
  sweep_events p = sweep (λ q e. taken_out q e (from_lowest g e.stack)) (with_events p []) p.agenda.events

  abbrev pub sweep_asks : Circumstance → Swept Ask
  sweep_asks p = sweep (λ q a. taken_out q a (from_lowest g a.stack)) (with_asks p []) p.agenda.asks

  -- each group as it stands when its turn comes
  abbrev pub running_swept : Circumstance → Circumstance
  running_swept p = let s = sweep_running p in with_running s.parts s.left

  abbrev pub events_swept : Circumstance → Circumstance
  events_swept p = let s = sweep_events p in with_events s.parts (s.left ++ s.parts.agenda.events)

  abbrev pub asks_swept : Circumstance → Circumstance
  asks_swept p = let s = sweep_asks p in with_asks s.parts s.left

  -- rule: all stacks but the current one, in the order running, events, asks
  abbrev pub all_swept : Circumstance → Circumstance
  all_swept p = asks_swept (events_swept (running_swept p))

  abbrev pub all_falls : Circumstance → List Fall
  all_falls p = (sweep_running p).falls ++ (sweep_events (running_swept p)).falls ++ (sweep_asks (events_swept (running_swept p))).falls
