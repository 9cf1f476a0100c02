-- `.succeed_goal` and `.fail_goal`, stack after stack, and the first match of `.intend` and `.desire`.
use Rattle.std.proofs.Common.{◌≤◌, ◌&&◌, ℕ, Bool, true, false, cond, List, [], ◌∷◌, ◌++◌, slice_get, Option, Some, None, IfSome, refl, arith}
use Rattle.std.specs.List.{AllByRecursion}
use Rattle.asl_term.specs.declared.syntax.AgentText.{AgentText}
use Rattle.asl_term.specs.declared.syntax.LiteralOf.{LiteralOf}
use Rattle.asl_term.specs.declared.syntax.Term.{Term}
use Rattle.asl_term.specs.declared.syntax.Trigger.{Trigger}
use Rattle.asl_unify.specs.declared.subst.Pair.{Pair}
use Rattle.asl_unify.specs.Matches.{matches}
use Rattle.asl_lint_laws.specs.Fresh.{LiteralBelow, SubstBelow}
use Rattle.asl_lint_laws.proofs.FreshMatching.{matches_below}
use Rattle.asl_plans.specs.declared.entry.OwnedPlan.{OwnedPlan}
use Rattle.asl_intend.specs.declared.entry.Means.{Means}
use Rattle.asl_intend.specs.declared.agenda.Agenda.{Agenda}
use Rattle.asl_intend.specs.declared.agenda.Ask.{Ask}
use Rattle.asl_intend.specs.declared.agenda.Error.TheVariants as error
use Rattle.asl_intend.specs.declared.agenda.Event.{Event}
use Rattle.asl_intend.specs.Entries.{is_achieve}
use Rattle.asl_intend.specs.Stacks.{names_goal, goal_match}
use Rattle.asl_exec_circumstance.specs.declared.rows.Row.TheVariants as row
use Rattle.asl_exec_circumstance.specs.Circumstance.{Surroundings, Circumstance}
use Rattle.asl_goals.specs.declared.sweep.Way.{Way}
use Rattle.asl_goals.specs.declared.sweep.Way.TheVariants as way
use Rattle.asl_goals.specs.Goals.{or_else, first_of, stack_match, event_match, first_goal, from_lowest, treated, Swept, sweep, with_running, with_events, with_asks, what_is_left, in_place, taken_out, sweep_running, sweep_events, sweep_asks, running_swept, events_swept, asks_swept, all_swept}
use Rattle.asl_lint_laws.specs.Agendas.{StackServed, EventServed, AskServed, AgendaServed}
use Rattle.asl_lint_laws.proofs.Later.{each_weaker, later_stack, later_event, later_ask}
use Rattle.asl_lint_laws.specs.RowsServed.{AroundServed, PartsServed, MadeServed}
use Rattle.asl_lint_laws.proofs.Beliefs.{all_append}
use Rattle.asl_lint_laws.proofs.Cleared.{emptied_served}
use Rattle.asl_lint_laws.proofs.Failed.{stay, failed_served}

-- ---- the first match

abbrev pub IfBelow : ℕ → Option (List Pair) → Type 0
IfBelow n o = IfSome o (SubstBelow n)

else_below : (n : ℕ) (a b : Option (List Pair)) → IfBelow n a → IfBelow n b → IfBelow n (or_else a b)
else_below n None b s t = t
else_below n (Some x) b s t = s

first_below : {A : Type 0} (n : ℕ) (P : A → Type 0) (f : A → Option (List Pair)) → ((x : A) → P x → IfBelow n (f x)) → (xs : List A) → AllByRecursion P xs → IfBelow n (first_of f xs)
first_below n P f k [] a = tt
first_below n P f k (x ∷ xs) a = else_below n (f x) (first_of f xs) (k x a.0) (first_below n P f k xs a.1)

module _ (names : List (List ℕ)) (texts : List AgentText) (plans : List OwnedPlan) (n : ℕ) (g : LiteralOf Term) (b : LiteralBelow n g) where
  match_below : (t : Trigger) → LiteralBelow n t.lit → IfBelow n (goal_match g t)
  match_below t l = go (t.add && is_achieve t.kind) where
    head : (xs : List (List Pair)) → AllByRecursion (SubstBelow n) xs → IfBelow n (slice_get xs 0)
    head [] a = tt
    head (x ∷ xs) a = a.0

    go : (d : Bool) → IfBelow n (cond d (slice_get (matches g t.lit []) 0) None)
    go true = head (matches g t.lit []) (matches_below n g t.lit [] b l refl)
    go false = tt

  stack_below : (stack : List Means) → StackServed names texts plans n stack → IfBelow n (stack_match g stack)
  stack_below stack s = first_below n _ (λ m. goal_match g m.trigger) (λ m a. match_below m.trigger a.trigger.below) stack s

  event_below : (d : Bool) (e : Event) → EventServed names texts plans n e → IfBelow n (event_match d g e)
  event_below d e s = else_below n (cond d (goal_match g e.trigger) None) (stack_match g e.stack) (go d) (stack_below e.stack s.stack) where
    go : (d : Bool) → IfBelow n (cond d (goal_match g e.trigger) None)
    go true = match_below e.trigger s.below
    go false = tt

  pub goal_below : (d : Bool) (a : Agenda) (cur : List Means) → AgendaServed names texts plans n a → StackServed names texts plans n cur → IfBelow n (first_goal d g a cur)
  goal_below d a cur s t =
      else_below n (first_of (stack_match g) a.running) _ (first_below n _ (stack_match g) stack_below a.running s.running)
      (else_below n (first_of (event_match d g) a.events) _ (first_below n _ (event_match d g) (event_below d) a.events s.events)
      (else_below n (first_of (λ q. stack_match g q.stack) a.asks) (stack_match g cur)
      (first_below n _ (λ q. stack_match g q.stack) (λ q z. stack_below q.stack z.stack) a.asks s.asks) (stack_below cur t)))

-- ---- from the lowest means

pub lowest_served : (P : Means → Type 0) (g : LiteralOf Term) (stack : List Means) → AllByRecursion P stack → IfSome (from_lowest g stack) (AllByRecursion P)
lowest_served P g [] a = tt
lowest_served P g (m ∷ below) a = go (from_lowest g below) (lowest_served P g below a.1) where
  here : (b : Bool) → IfSome (cond b (Some (m ∷ below)) None) (AllByRecursion P)
  here true = a
  here false = tt

  go : (o : Option (List Means)) → IfSome o (AllByRecursion P) → IfSome (or_else o (cond (names_goal g m.trigger) (Some (m ∷ below)) None)) (AllByRecursion P)
  go None s = here (names_goal g m.trigger)
  go (Some x) s = s

-- ---- a sweep

module _ (names : List (List ℕ)) (texts : List AgentText) (plans : List OwnedPlan) where
  -- what one step, or all of them, leave where the counter was n before
  pub record SweptServed {S : Type 0} (P : ℕ → S → Type 0) (n : ℕ) (x : Swept S) : Type 0 where
    pub number : n ≤ x.parts.number
    pub parts : PartsServed names texts plans x.parts
    pub left : AllByRecursion (P x.parts.number) x.left

  module _ {S : Type 0} (P : ℕ → S → Type 0) (later : (n m : ℕ) → n ≤ m → (x : S) → P n x → P m x) (one : Circumstance → S → Swept S)
      (step : (q : Circumstance) → PartsServed names texts plans q → (x : S) → P q.number x → SweptServed P q.number (one q x)) where
    all_later : (n m : ℕ) → n ≤ m → (xs : List S) → AllByRecursion (P n) xs → AllByRecursion (P m) xs
    all_later n m l xs a = each_weaker (P n) (P m) (later n m l) xs a

    sweep_served : (q : Circumstance) → PartsServed names texts plans q → (xs : List S) → AllByRecursion (P q.number) xs → SweptServed P q.number (sweep one q xs)
    sweep_served q s [] a = record { number = stay q.number; parts = s; left = tt }
    sweep_served q s (x ∷ xs) a =
        let f = step q s x a.0 in
        let fn = f.number in
        let g = sweep_served (one q x).parts f.parts xs (all_later q.number (one q x).parts.number fn xs a.1) in
        let gn = g.number in
        record {
          number = omega (arith, fn, gn);
          parts = g.parts;
          left = all_append (P (sweep one (one q x).parts xs).parts.number) (one q x).left (sweep one (one q x).parts xs).left
              (all_later (one q x).parts.number (sweep one (one q x).parts xs).parts.number gn (one q x).left f.left) g.left;
        }

-- ---- the three groups

module _ (names : List (List ℕ)) (texts : List AgentText) (k : Surroundings) (around : AroundServed names texts k) (w : Way) (g : LiteralOf Term) where
  abbrev Stack : ℕ → List Means → Type 0
  Stack n = StackServed names texts k.plans n

  abbrev Events : ℕ → Event → Type 0
  Events n = EventServed names texts k.plans n

  abbrev Asks : ℕ → Ask → Type 0
  Asks n = AskServed names texts k.plans n

  abbrev Served : Circumstance → Type 0
  Served = PartsServed names texts k.plans

  pub treated_served : (v : Way) (p : Circumstance) → Served p → (cut : List Means) → Stack p.number cut → MadeServed names texts k.plans p.number (treated k v p cut)
  treated_served way.Succeed p s cut c = emptied_served names texts k around p s cut c
  treated_served way.Fail p s cut c = failed_served names texts k around row.IaFail refl error.IaFailed p cut s c

  left_served : (n : ℕ) (cur : List Means) → Stack n cur → AllByRecursion (Stack n) (what_is_left cur)
  left_served n [] c = tt
  left_served n (m ∷ below) c = (c, tt)

  running_served : (q : Circumstance) → Served q → (stacks : List (List Means)) → AllByRecursion (Stack q.number) stacks → Served (with_running q stacks)
  running_served q s stacks a = record {
    beliefs = s.beliefs;
    agenda = record { events = s.agenda.events; running = a; acting = s.agenda.acting; asks = s.agenda.asks };
  }

  events_served : (q : Circumstance) → Served q → (events : List Event) → AllByRecursion (Events q.number) events → Served (with_events q events)
  events_served q s events a = record {
    beliefs = s.beliefs;
    agenda = record { events = a; running = s.agenda.running; acting = s.agenda.acting; asks = s.agenda.asks };
  }

  asks_served : (q : Circumstance) → Served q → (asks : List Ask) → AllByRecursion (Asks q.number) asks → Served (with_asks q asks)
  asks_served q s asks a = record {
    beliefs = s.beliefs;
    agenda = record { events = s.agenda.events; running = s.agenda.running; acting = s.agenda.acting; asks = a };
  }

  in_place_served : (q : Circumstance) → Served q → (stack : List Means) → Stack q.number stack → (o : Option (List Means)) → IfSome o (Stack q.number)
      → SweptServed names texts k.plans Stack q.number (in_place k w g q stack o)
  in_place_served q s stack c None t = record { number = stay q.number; parts = s; left = (c, tt) }
  in_place_served q s stack c (Some cut) t =
      let m = treated_served w q s cut t in
      record { number = m.number; parts = m.parts; left = left_served (treated k w q cut).parts.number (treated k w q cut).cur m.cur }

  taken_served : {S : Type 0} (P : ℕ → S → Type 0) (q : Circumstance) → Served q → (x : S) → P q.number x → (o : Option (List Means)) → IfSome o (Stack q.number)
      → SweptServed names texts k.plans P q.number (taken_out k w g q x o)
  taken_served P q s x c None t = record { number = stay q.number; parts = s; left = (c, tt) }
  taken_served P q s x c (Some cut) t =
      let m = treated_served w q s cut t in
      let y = treated k w q cut in
      record {
        number = m.number;
        parts = running_served y.parts m.parts (y.parts.agenda.running ++ what_is_left y.cur)
            (all_append (Stack y.parts.number) y.parts.agenda.running (what_is_left y.cur) m.parts.agenda.running (left_served y.parts.number y.cur m.cur));
        left = tt;
      }

  pub record Kept (n : ℕ) (q : Circumstance) : Type 0 where
    pub number : n ≤ q.number
    pub parts : Served q

  running_kept : (p : Circumstance) → Served p → Kept p.number (running_swept k w g p)
  running_kept p s =
      let r = sweep_served names texts k.plans Stack (later_stack names texts k.plans) (λ q stack. in_place k w g q stack (from_lowest g stack))
      (λ q t stack c. in_place_served q t stack c (from_lowest g stack) (lowest_served _ g stack c))
      (with_running p []) (running_served p s [] tt) p.agenda.running s.agenda.running in
      record { number = r.number; parts = running_served (sweep_running k w g p).parts r.parts (sweep_running k w g p).left r.left }

  events_kept : (p : Circumstance) → Served p → Kept p.number (events_swept k w g p)
  events_kept p s =
      let r = sweep_served names texts k.plans Events (later_event names texts k.plans) (λ q e. taken_out k w g q e (from_lowest g e.stack))
      (λ q t e c. taken_served Events q t e c (from_lowest g e.stack) (lowest_served _ g e.stack c.stack))
      (with_events p []) (events_served p s [] tt) p.agenda.events s.agenda.events in
      let x = sweep_events k w g p in
      record {
        number = r.number;
        parts = events_served x.parts r.parts (x.left ++ x.parts.agenda.events) (all_append (Events x.parts.number) x.left x.parts.agenda.events r.left r.parts.agenda.events);
      }

  asks_kept : (p : Circumstance) → Served p → Kept p.number (asks_swept k w g p)
  asks_kept p s =
      let r = sweep_served names texts k.plans Asks (later_ask names texts k.plans) (λ q a. taken_out k w g q a (from_lowest g a.stack))
      (λ q t a c. taken_served Asks q t a c (from_lowest g a.stack) (lowest_served _ g a.stack c.stack))
      (with_asks p []) (asks_served p s [] tt) p.agenda.asks s.agenda.asks in
      record { number = r.number; parts = asks_served (sweep_asks k w g p).parts r.parts (sweep_asks k w g p).left r.left }

  pub swept_kept : (p : Circumstance) → Served p → Kept p.number (all_swept k w g p)
  swept_kept p s =
      let a = running_kept p s in
      let b = events_kept (running_swept k w g p) a.parts in
      let c = asks_kept (events_swept k w g (running_swept k w g p)) b.parts in
      let an = a.number in
      let bn = b.number in
      let cn = c.number in
      record { number = omega (arith, an, bn, cn); parts = c.parts }
