-- The steps of a cycle.
use Rattle.std.proofs.Common.{◌≡◌, ◌≤◌, ◌+◌, ℕ, List, [], ◌∷◌, Option, Some, None, IfSome, refl, sym, subst, arith}
use Rattle.std.specs.List.{AllByRecursion}
use Rattle.asl_term.specs.declared.syntax.AgentText.{AgentText}
use Rattle.asl_term.specs.declared.syntax.Kind.{Kind}
use Rattle.asl_term.specs.declared.syntax.Kind.TheVariants as kind
use Rattle.asl_term.specs.declared.syntax.LiteralOf.{LiteralOf}
use Rattle.asl_term.specs.declared.syntax.Term.{Term}
use Rattle.asl_term.specs.declared.syntax.Trigger.{Trigger}
use Rattle.asl_beliefs.specs.Changes.{updated}
use Rattle.asl_unify.specs.Puts.{value_of}
use Rattle.asl_unify.proofs.General.{flat-value}
use Rattle.asl_lint_laws.specs.Fresh.{late}
use Rattle.asl_lint_laws.proofs.Counts.{apply_none}
use Rattle.asl_plans.specs.declared.library.Choice.{Choice}
use Rattle.asl_plans.specs.Plans.{relevant}
use Rattle.asl_intend.specs.declared.entry.Means.{Means}
use Rattle.asl_intend.specs.declared.agenda.Acting.{Acting}
use Rattle.asl_intend.specs.declared.agenda.Error.{Error}
use Rattle.asl_intend.specs.declared.agenda.Error.TheVariants as error
use Rattle.asl_intend.specs.declared.agenda.Event.{Event}
use Rattle.asl_intend.specs.Means.{applied_means}
use Rattle.asl_intend.specs.Stacks.{without_head}
use Rattle.asl_fail.specs.Fails.{fails}
use Rattle.asl_exec_circumstance.specs.declared.rows.Row.{Row}
use Rattle.asl_exec_circumstance.specs.declared.rows.Row.TheVariants as row
use Rattle.asl_exec_circumstance.specs.declared.went.Went.{Went}
use Rattle.asl_exec_circumstance.specs.declared.went.Went.TheVariants as went
use Rattle.asl_exec_circumstance.specs.Circumstance.{Surroundings, Circumstance, Made, running}
use Rattle.asl_exec.specs.Clear.{clear}
use Rattle.asl_exec_choose.specs.declared.chosen.Chosen.{Chosen}
use Rattle.asl_exec_choose.specs.declared.chosen.Chosen.TheVariants as chosen
use Rattle.asl_exec_choose.specs.Choosing.{choose}
use Rattle.mas_mind.specs.declared.mind.Feedback.{Feedback}
use Rattle.mas_mind.specs.declared.mind.Feedback.TheVariants as feedback
use Rattle.asl_cycle.specs.declared.config.Related.{Related}
use Rattle.asl_cycle.specs.declared.config.Intended.{Intended}
use Rattle.asl_cycle.specs.declared.config.Applied.{Applied}
use Rattle.asl_cycle.specs.declared.config.Applied.TheVariants as applied
use Rattle.asl_cycle.specs.Steps.{by, Stepped, Onward, percept_row, percept, none_acting, fed, feed_on, feed, sel_ev_on, sel_ev, irrelevant, virtual, error_of, no_plan, dropped_or_fails, rel_pl_on, rel_pl, appl_pl_on, appl_pl, sel_appl, add_im_row, add_im, sel_int_on, sel_int, row_of, of_made, clear_step}
use Rattle.asl_lint_laws.specs.Served.{IsSome}
use Rattle.asl_lint_laws.specs.Agendas.{MeansServed, StackServed, TakenServed, EventServed}
use Rattle.asl_lint_laws.proofs.Bound.{older_put}
use Rattle.asl_lint_laws.proofs.Failing.{fails_served}
use Rattle.asl_lint_laws.proofs.Later.{later_event}
use Rattle.asl_lint_laws.proofs.Ages.{literal_later}
use Rattle.asl_lint_laws.specs.Read.{AreGround}
use Rattle.asl_lint_laws.specs.RowsServed.{IsOther, AroundServed, PartsServed, WentServed, MadeServed}
use Rattle.asl_lint_laws.specs.Rows.{ChosenServed}
use Rattle.asl_lint_laws.proofs.Beliefs.{updated_change}
use Rattle.asl_lint_laws.proofs.Chosen.{choice_keeps}
use Rattle.asl_lint_laws.proofs.Cleared.{clear_keeps}
use Rattle.asl_lint_laws.proofs.Failed.{are_source, stay, stack_rest, agenda_running, parts_believing, parts_later}
use Rattle.asl_lint_laws.specs.Cycles.{NeverIrrelevant}
use Rattle.asl_lint_laws.proofs.Lines.{fall_never, went_never}

module _ (names : List (List ℕ)) (texts : List AgentText) (k : Surroundings) (around : AroundServed names texts k) where
  abbrev Served : Circumstance → Type 0
  Served = PartsServed names texts k.plans

  abbrev Stack : ℕ → List Means → Type 0
  Stack n = StackServed names texts k.plans n

  -- what a step leaves, writes and hands on, where the counter was n before
  pub record StepServed {N : Type 0} (Next : ℕ → N → Type 0) (n : ℕ) (w : Stepped N) : Type 0 where
    pub number : n ≤ w.parts.number
    pub parts : Served w.parts
    pub row : IsOther w.row
    pub lines : NeverIrrelevant w.lines
    pub next : Next w.parts.number w.next

  abbrev pub Any : ℕ → Unit {0} → Type 0
  Any n u = Unit {0}

  -- ---- Percept and Feed

  percept_other : (events : List Trigger) → IsOther (percept_row events)
  percept_other [] = refl
  percept_other (e ∷ events) = refl

  pub percept_served : (p : Circumstance) → Served p → (percepts : List (LiteralOf Term)) → AreGround percepts → StepServed Any p.number (percept p percepts)
  percept_served p s percepts g = record {
    number = stay p.number;
    parts = parts_believing names texts k.plans p (updated percepts p.beliefs) s (updated_change percepts p.beliefs g s.beliefs);
    row = percept_other (updated percepts p.beliefs).events;
    lines = tt;
    next = tt;
  }

  running_served : (p : Circumstance) → Served p → (stack : List Means) → Stack p.number stack → Served (running p stack)
  running_served p s stack t = record { beliefs = s.beliefs; agenda = agenda_running names texts k.plans p.number p.agenda stack s.agenda t }

  none_served : (p : Circumstance) → Served p → Served (none_acting p)
  none_served p s = record { beliefs = s.beliefs; agenda = record { events = s.agenda.events; running = s.agenda.running; acting = tt; asks = s.agenda.asks } }

  fed_served : (p : Circumstance) → Served p → (f : Feedback) (a : Acting) → Stack p.number a.stack → StepServed Any p.number (fed k p f a)
  fed_served p s feedback.Done a t = record {
    number = stay p.number;
    parts = running_served (none_acting p) (none_served p s) (without_head a.stack) (stack_rest names texts k.plans p.number a.stack t);
    row = refl;
    lines = (refl, tt);
    next = tt;
  }
  fed_served p s feedback.Failed a t =
      let n = none_served p s in
      let f = fails k.plans p.number error.ActionFailed (none_acting p).agenda a.stack in
      record {
        number = stay p.number;
        parts = record {
          beliefs = s.beliefs;
          agenda = fails_served names texts k.plans (are_source names texts k around) p.number error.ActionFailed (none_acting p).agenda a.stack n.agenda t;
        };
        row = refl;
        lines = (refl, fall_never error.ActionFailed f.fell);
        next = tt;
      }

  feed0 : (p : Circumstance) → Served p → StepServed Any p.number (by row.Feed0 p [] tt)
  feed0 p s = record { number = stay p.number; parts = s; row = refl; lines = tt; next = tt }

  pub feed_served : (p : Circumstance) → Served p → (o : Option Feedback) → StepServed Any p.number (feed k p o)
  feed_served p s None = feed0 p s
  feed_served p s (Some f) = go p.agenda.acting s.agenda.acting where
    go : (o : Option Acting) → IfSome o (λ a. Stack p.number a.stack) → StepServed Any p.number (feed_on k p f o)
    go (Some a) t = fed_served p s f a t
    go None t = feed0 p s

  -- ---- SelEv and RelPl

  abbrev pub IfEvent : ℕ → Option Event → Type 0
  IfEvent n o = IfSome o (EventServed names texts k.plans n)

  pub sel_ev_served : (p : Circumstance) → Served p → StepServed IfEvent p.number (sel_ev p)
  sel_ev_served p s = go p.agenda.events s.agenda.events where
    go : (events : List Event) → AllByRecursion (EventServed names texts k.plans p.number) events → StepServed IfEvent p.number (sel_ev_on p events)
    go [] a = record { number = stay p.number; parts = s; row = refl; lines = tt; next = tt }
    go (v ∷ events) a = record {
      number = stay p.number;
      parts = record { beliefs = s.beliefs; agenda = record { events = a.1; running = s.agenda.running; acting = s.agenda.acting; asks = s.agenda.asks } };
      row = refl;
      lines = tt;
      next = a.0;
    }

  -- the plans that are relevant for an event, under a number that the counter has passed
  pub record RelatedServed (n : ℕ) (r : Related) : Type 0 where
    pub event : EventServed names texts k.plans n r.event
    pub before : EventServed names texts k.plans r.number r.event
    pub choices : r.choices ≡ relevant k.plans r.number r.event.trigger
    pub number : r.number + 1 ≤ n

  abbrev pub IfRelated : ℕ → Option Related → Type 0
  IfRelated n o = IfSome o (RelatedServed n)

  related_by : (p : Circumstance) → Served p → (v : Event) → EventServed names texts k.plans p.number v → (cs : List Choice) → relevant k.plans p.number v.trigger ≡ cs
      → StepServed IfRelated p.number (rel_pl_on k p v cs)
  related_by p s v e (c ∷ cs) r = record {
    number = rises;
    parts = parts_later names texts k.plans p (p.number + 1) rises s;
    row = refl;
    lines = tt;
    next = record { event = later_event names texts k.plans p.number (p.number + 1) rises v e; before = e; choices = sym r; number = stay (p.number + 1) };
  } where
    rises : p.number ≤ p.number + 1
    rises = omega arith
  related_by p s v e [] r = go v.trigger.kind e.taken where
    go : (b : Kind) → TakenServed names texts k.plans p.number v.trigger b
        → StepServed IfRelated p.number (dropped_or_fails k row.Rel2 row.Rel3 p v b (irrelevant v.trigger.add v.trigger.kind) None)
    go kind.Belief t = record { number = stay p.number; parts = s; row = refl; lines = tt; next = tt }
    go kind.Achieve t = absurd (subst IsSome r (t.0 p.number (stay p.number)))
    go kind.Test t = absurd (subst IsSome r (t.0 p.number (stay p.number)))

  pub rel_pl_served : (p : Circumstance) → Served p → (v : Event) → EventServed names texts k.plans p.number v → StepServed IfRelated p.number (rel_pl k p v)
  rel_pl_served p s v e = related_by p s v e (relevant k.plans p.number v.trigger) refl

  -- ---- ApplPl, SelAppl and AddIM

  -- means that are chosen for an event
  pub record IntendedServed (n : ℕ) (i : Intended) : Type 0 where
    pub next : n ≤ i.next
    pub means : MeansServed names texts k.plans i.next (applied_means i.subst i.means)
    pub stack : StackServed names texts k.plans n i.event.stack

  abbrev pub AppliedServed : ℕ → Applied → Type 0
  AppliedServed n (applied.Plan i) = IntendedServed n i
  AppliedServed n applied.Nothing = Unit {0}
  AppliedServed n applied.Spent = Unit {0}

  virtual_served : (n : ℕ) (v : Event) → EventServed names texts k.plans n v → Stack n (virtual v)
  virtual_served n v e = (
    record {
      trigger = older_put names texts k.plans (value_of []) (flat-value []) n n (stay n) (λ t z. apply_none (late n) [] t refl z) v.trigger.lit e.below;
      body = tt;
    },
    e.stack,
  )

  no_plan_served : (r : Row) → IsOther r → (p : Circumstance) → Served p → (v : Event) → EventServed names texts k.plans p.number v → (other : Error)
      → StepServed AppliedServed p.number (no_plan k r p v other applied.Nothing)
  no_plan_served r o p s v e other =
      let x = error_of v.error other in
      let f = fails k.plans p.number x p.agenda (virtual v) in
      record {
        number = stay p.number;
        parts = record {
          beliefs = s.beliefs;
          agenda = fails_served names texts k.plans (are_source names texts k around) p.number x p.agenda (virtual v) s.agenda (virtual_served p.number v e);
        };
        row = o;
        lines = fall_never x f.fell;
        next = tt;
      }

  dropped_served : (p : Circumstance) → Served p → (v : Event) → EventServed names texts k.plans p.number v → (b : Kind) (x : Error)
      → StepServed AppliedServed p.number (dropped_or_fails k row.Appl2 row.Appl3 p v b x applied.Nothing)
  dropped_served p s v e kind.Belief x = record { number = stay p.number; parts = s; row = refl; lines = tt; next = tt }
  dropped_served p s v e kind.Achieve x = no_plan_served row.Appl3 refl p s v e x
  dropped_served p s v e kind.Test x = no_plan_served row.Appl3 refl p s v e x

  applied_by : (p : Circumstance) → Served p → (v : Event) → EventServed names texts k.plans p.number v → (c : Chosen) → ChosenServed names texts k.plans p.number c
      → StepServed AppliedServed p.number (appl_pl_on k p v c)
  applied_by p s v e (chosen.Plan m t n) c = record {
    number = stay p.number;
    parts = s;
    row = refl;
    lines = tt;
    next = record { next = c.0; means = c.1; stack = e.stack };
  }
  applied_by p s v e chosen.Nothing c = dropped_served p s v e v.trigger.kind error.NoApplicable
  applied_by p s v e (chosen.Spent b) c = record { number = stay p.number; parts = s; row = refl; lines = (refl, tt); next = tt }

  pub appl_pl_served : (p : Circumstance) → Served p → (r : Related) → RelatedServed p.number r → StepServed AppliedServed p.number (appl_pl k p r)
  appl_pl_served p s r e =
      let before = e.before.below in
      let l : r.number ≤ r.number + 1 = omega arith in
      let found = choice_keeps names texts k p r.number r.event.trigger around s e.number (literal_later r.number (r.number + 1) l r.event.trigger.lit before) in
      applied_by p s r.event e.event (choose k p r.number r.choices) (subst (λ cs. ChosenServed names texts k.plans p.number (choose k p r.number cs)) (sym e.choices) found)

  pub sel_appl_served : (p : Circumstance) → Served p → (i : Intended) → IntendedServed p.number i → StepServed Any p.number (sel_appl p i)
  sel_appl_served p s i t = record {
    number = t.next;
    parts = parts_later names texts k.plans p i.next t.next s;
    row = refl;
    lines = tt;
    next = tt;
  }

  add_im_other : (stack : List Means) → IsOther (add_im_row stack)
  add_im_other [] = refl
  add_im_other (m ∷ below) = refl

  -- (the counter is the next number of the solution)
  pub add_im_served : (p : Circumstance) → Served p → (i : Intended) → MeansServed names texts k.plans p.number (applied_means i.subst i.means) → Stack p.number i.event.stack
      → StepServed Any p.number (add_im p i)
  add_im_served p s i m t = record {
    number = stay p.number;
    parts = running_served p s (applied_means i.subst i.means ∷ i.event.stack) (m, t);
    row = add_im_other i.event.stack;
    lines = tt;
    next = tt;
  }

  -- ---- SelInt and Clr

  abbrev pub IfStack : ℕ → Option (List Means) → Type 0
  IfStack n o = IfSome o (StackServed names texts k.plans n)

  pub sel_int_served : (p : Circumstance) → Served p → StepServed IfStack p.number (sel_int p)
  sel_int_served p s = go p.agenda.running s.agenda.running where
    go : (stacks : List (List Means)) → AllByRecursion (Stack p.number) stacks → StepServed IfStack p.number (sel_int_on p stacks)
    go [] a = record { number = stay p.number; parts = s; row = refl; lines = tt; next = tt }
    go (x ∷ stacks) a = record {
      number = stay p.number;
      parts = record { beliefs = s.beliefs; agenda = record { events = s.agenda.events; running = a.1; acting = s.agenda.acting; asks = s.agenda.asks } };
      row = refl;
      lines = tt;
      next = a.0;
    }

  abbrev pub OnwardServed : ℕ → Onward → Type 0
  OnwardServed n o = StackServed names texts k.plans n o.cur

  went_other : (n : ℕ) (w : Went) → WentServed names texts k.plans n w → IsOther (row_of w)
  went_other n (went.Row r) s = s
  went_other n (went.Say t) s = refl
  went_other n (went.Action l) s = refl
  went_other n (went.Outer c) s = refl
  went_other n (went.Failed r f) s = s
  went_other n (went.Spent r b) s = s

  pub made_served : (n : ℕ) (x : Made) → MadeServed names texts k.plans n x → StepServed OnwardServed n (of_made x)
  made_served n x m = record {
    number = m.number;
    parts = m.parts;
    row = went_other x.parts.number x.went m.went;
    lines = went_never x.went;
    next = m.cur;
  }

  pub clear_step_served : (p : Circumstance) → Served p → (cur : List Means) → Stack p.number cur → StepServed OnwardServed p.number (clear_step k p cur)
  clear_step_served p s cur c = made_served p.number (clear k p cur) (clear_keeps names texts k p cur around s c)
