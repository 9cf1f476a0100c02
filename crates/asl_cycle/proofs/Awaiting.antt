-- A stack waits for its action after a cycle exactly where the thought has one.
use Rattle.std.proofs.Common.{◌≡◌, ℕ, zero, suc, Bool, true, false, ◌||◌, List, [], ◌∷◌, length, Option, None, Some, is_some, Result, Ok, Err, OnOk, refl, sym, ap, subst, ◌∙◌}
use Rattle.asl_term.specs.declared.syntax.Kind.{Kind}
use Rattle.asl_term.specs.declared.syntax.Kind.TheVariants as kind
use Rattle.asl_intend.specs.declared.entry.Means.{Means}
use Rattle.asl_intend.specs.declared.agenda.Acting.{Acting}
use Rattle.asl_intend.specs.declared.agenda.Error.{Error}
use Rattle.asl_intend.specs.declared.agenda.Error.TheVariants as error
use Rattle.asl_intend.specs.declared.agenda.Event.{Event}
use Rattle.asl_plans.specs.declared.library.Choice.{Choice}
use Rattle.asl_plans.specs.Plans.{relevant}
use Rattle.asl_exec_circumstance.specs.declared.rows.Row.{Row}
use Rattle.asl_exec_circumstance.specs.declared.rows.Row.TheVariants as row
use Rattle.asl_exec_circumstance.specs.declared.went.Went.{Went}
use Rattle.asl_exec_circumstance.specs.declared.went.Went.TheVariants as went
use Rattle.asl_exec_circumstance.specs.Circumstance.{Surroundings, Circumstance, Made}
use Rattle.asl_exec.specs.Exec.{exec}
use Rattle.mas_mind.specs.declared.mind.Feedback.{Feedback}
use Rattle.mas_mind.specs.declared.mind.Feedback.TheVariants as feedback
use Rattle.mas_mind.specs.declared.mind.Input.{Input}
use Rattle.mas_mind.specs.declared.mind.Message.{Message}
use Rattle.mas_mind.specs.declared.mind.Thought.{Thought}
use Rattle.mas_mind.specs.Minds.{asks_feedback}
use Rattle.asl_exec_circumstance.specs.declared.peers.Peers.{Peers}
use Rattle.asl_kqml.specs.declared.took.Took.{Took}
use Rattle.asl_kqml.specs.declared.took.Took.TheVariants as took
use Rattle.asl_kqml.specs.Receive.{receive}
use Rattle.asl_goals.specs.declared.acted.Acted.{Acted}
use Rattle.asl_goals.specs.declared.acted.Acted.TheVariants as acted
use Rattle.asl_goals.specs.Inside.{Did, act_inside}
use Rattle.asl_cycle.specs.declared.rows.TraceLine.{TraceLine}
use Rattle.asl_cycle.specs.declared.rows.Sofar.{Sofar}
use Rattle.asl_cycle.specs.declared.config.After.{After}
use Rattle.asl_cycle.specs.declared.config.After.TheVariants as after
use Rattle.asl_cycle.specs.declared.config.Applied.{Applied}
use Rattle.asl_cycle.specs.declared.config.Applied.TheVariants as applied
use Rattle.asl_exec_choose.specs.declared.chosen.Chosen.{Chosen}
use Rattle.asl_exec_choose.specs.declared.chosen.Chosen.TheVariants as chosen
use Rattle.asl_exec_choose.specs.Choosing.{choose}
use Rattle.asl_cycle.specs.declared.config.Intended.{Intended}
use Rattle.asl_cycle.specs.declared.config.Related.{Related}
use Rattle.asl_cycle.specs.Steps as step
use Rattle.asl_cycle.specs.Steps.{acts, written}
use Rattle.asl_cycle.specs.Cycle as spec
use Rattle.asl_cycle.specs.Acts.{is_fed, ActionsAreAwaited}
use Rattle.asl_cycle.specs.inner.Acting.{falls_acting, exec_held, clear_held}
use Rattle.asl_cycle.proofs.Letters.{reads_acting}
use Rattle.asl_cycle.proofs.Deeds.{deed_waits}

none_held : (a : Option Acting) → a ≡ None → is_some a ≡ false
none_held a none = ap (λ b. is_some b) none

empty : (a : Option Acting) → is_some a ≡ false → a ≡ None
empty None e = refl
empty (Some a) e = cc

pub never_told : (a : Option Acting) → is_fed a None ≡ true → a ≡ None
never_told None e = refl
never_told (Some a) e = cc

abbrev Awaited : spec.Ran → Type 0
Awaited r = is_some r.parts.agenda.acting ≡ asks_feedback r.thought

-- ---- the rows for the current stack

module _ (k : Surroundings) where
  goes : (rest : Circumstance → Sofar → List Means → spec.Ran) → ((p : Circumstance) (s : Sofar) (cur : List Means) → p.agenda.acting ≡ None → Awaited (rest p s cur))
      → (p : Circumstance) (s : Sofar) (cur : List Means) (a : After) → is_some p.agenda.acting ≡ acts a → Awaited (spec.goes_to k rest p s cur a)
  goes rest h p s cur after.Clears e = h p s cur (empty p.agenda.acting e)
  goes rest h p s cur after.Ends e = e
  goes rest h p s cur (after.Acts l) e = e
  goes rest h p s cur after.Spends e = e

  clr : (n : ℕ) (p : Circumstance) (s : Sofar) (cur : List Means) → p.agenda.acting ≡ None → Awaited (spec.from_clr k n p s cur)
  clr zero p s cur none = none_held p.agenda.acting none
  clr (suc n) p s cur none =
      let w = step.clear_step k p cur in
      goes (spec.from_clr k n) (clr n) w.parts (written s w) w.next.cur w.next.after (clear_held k p cur none)

  all_clr : (p : Circumstance) (s : Sofar) (cur : List Means) → p.agenda.acting ≡ None → Awaited (spec.clears k p s cur)
  all_clr p s cur none = clr (suc (length cur)) p s cur none

module _ (k : Surroundings) (peers : Peers) (s : Sofar) where
  acted_held : (d : Did) (a : Acted) → d.parts.agenda.acting ≡ None
      → is_some (step.of_acted k peers s d a).parts.agenda.acting ≡ acts (step.of_acted k peers s d a).next.after
  acted_held d (acted.Failed e) none =
      none_held (step.of_acted k peers s d (acted.Failed e)).parts.agenda.acting (falls_acting k.plans d.parts.number error.IaFailed d.parts.agenda d.cur ∙ none)
  acted_held d (acted.Asked m) none = none_held d.parts.agenda.acting none
  acted_held d (acted.Gone fs) none = none_held d.parts.agenda.acting none
  acted_held d (acted.Ok fs) none = none_held d.parts.agenda.acting none
  acted_held d (acted.Sent messages) none = none_held d.parts.agenda.acting none
  acted_held d acted.Stop none = none_held d.parts.agenda.acting none

module _ (k : Surroundings) (peers : Peers) where
  by_held : (s : Sofar) (x : Made) (w : Went) → x.went ≡ w → is_some x.parts.agenda.acting ≡ acts (step.after_of x.went)
      → is_some (step.exec_by k peers s x w).parts.agenda.acting ≡ acts (step.exec_by k peers s x w).next.after
  by_held s x (went.Outer c) is e =
      let d = act_inside k peers s.asks x.parts x.cur c in
      let none : x.parts.agenda.acting ≡ None =
      empty x.parts.agenda.acting (subst (λ w. is_some x.parts.agenda.acting ≡ acts (step.after_of w)) is e) in
      acted_held k peers (record s { asks = d.asks }) d d.acted (deed_waits k peers s.asks x.parts x.cur c ∙ none)
  by_held s x (went.Row r) is e = e
  by_held s x (went.Say text) is e = e
  by_held s x (went.Action l) is e = e
  by_held s x (went.Failed r fall) is e = e
  by_held s x (went.Spent r b) is e = e

  abbrev Ends : Circumstance → spec.Ran → Type 0
  Ends p r = p.agenda.acting ≡ None → Awaited r

  execs : (p : Circumstance) (s : Sofar) (cur : List Means) → Ends p (spec.from_exec k peers p s cur)
  execs p s cur none =
      let x = exec k p cur in
      let w = step.exec_step k peers p s cur in
      goes k (spec.clears k) (all_clr k) w.parts w.sofar w.next.cur w.next.after (by_held s x x.went refl (exec_held k p cur none))

  -- ---- up to them

  int_by : (p : Circumstance) (s : Sofar) (stacks : List (List Means)) → Ends p (spec.and_then s (step.sel_int_on p stacks) (spec.after_sel_int k peers))
  int_by p s [] none = none_held p.agenda.acting none
  int_by p s (c ∷ stacks) none = let w = step.sel_int_on p (c ∷ stacks) in execs w.parts (written s w) c none

  int : (p : Circumstance) (s : Sofar) → Ends p (spec.from_sel_int k peers p s)
  int p s = int_by p s p.agenda.running

  appl : (p : Circumstance) (s : Sofar) (i : Intended) → Ends p (spec.from_sel_appl k peers p s i)
  appl p s i none =
      let w = step.sel_appl p i in
      let v = step.add_im w.parts i in
      int v.parts (written (written s w) v) none

  pub dropped_keeps : {N : Type 0} (b f : Row) (p : Circumstance) (v : Event) (t : Kind) (e : Error) (next : N)
      → (step.dropped_or_fails k b f p v t e next).parts.agenda.acting ≡ p.agenda.acting
  dropped_keeps b f p v kind.Belief e next = refl
  dropped_keeps b f p v kind.Achieve e next = falls_acting k.plans p.number (step.error_of v.error e) p.agenda (step.virtual v)
  dropped_keeps b f p v kind.Test e next = falls_acting k.plans p.number (step.error_of v.error e) p.agenda (step.virtual v)

  pub appl_keeps : (p : Circumstance) (v : Event) (c : Chosen) → (step.appl_pl_on k p v c).parts.agenda.acting ≡ p.agenda.acting
  appl_keeps p v (chosen.Plan m t n) = refl
  appl_keeps p v chosen.Nothing = dropped_keeps row.Appl2 row.Appl3 p v v.trigger.kind error.NoApplicable applied.Nothing
  appl_keeps p v (chosen.Spent b) = refl

  after_appl : (p : Circumstance) (s : Sofar) (a : Applied) → Ends p (spec.after_appl_pl k peers p s a)
  after_appl p s (applied.Plan i) none = appl p s i none
  after_appl p s applied.Nothing none = int p s none
  after_appl p s applied.Spent none = none_held p.agenda.acting none

  appl_of : (p : Circumstance) (s : Sofar) (r : Related) → Ends p (spec.from_appl_pl k peers p s r)
  appl_of p s r none =
      let w = step.appl_pl k p r in after_appl w.parts (written s w) w.next (appl_keeps p r.event (choose k p r.number r.choices) ∙ none)

  pub rel_keeps : (p : Circumstance) (v : Event) (cs : List Choice) → (step.rel_pl_on k p v cs).parts.agenda.acting ≡ p.agenda.acting
  rel_keeps p v [] = dropped_keeps row.Rel2 row.Rel3 p v v.trigger.kind (step.irrelevant v.trigger.add v.trigger.kind) None
  rel_keeps p v (c ∷ cs) = refl

  after_rel : (p : Circumstance) (s : Sofar) (o : Option Related) → Ends p (spec.after_rel_pl k peers p s o)
  after_rel p s None none = int p s none
  after_rel p s (Some r) none = appl_of p s r none

  rel : (p : Circumstance) (s : Sofar) (v : Event) → Ends p (spec.from_rel_pl k peers p s v)
  rel p s v none =
      let w = step.rel_pl k p v in after_rel w.parts (written s w) w.next (rel_keeps p v (relevant k.plans p.number v.trigger) ∙ none)

  ev_by : (p : Circumstance) (s : Sofar) (events : List Event) → Ends p (spec.and_then s (step.sel_ev_on p events) (spec.after_sel_ev k peers))
  ev_by p s [] none = let w = step.sel_ev_on p [] in int w.parts (written s w) none
  ev_by p s (v ∷ events) none = let w = step.sel_ev_on p (v ∷ events) in rel w.parts (written s w) v none

  ev : (p : Circumstance) (s : Sofar) → Ends p (spec.from_sel_ev k peers p s)
  ev p s = ev_by p s p.agenda.events

  taken : (q : Circumstance) (s : Sofar) (m : Message) (t : Took)
      → Ends q (let w = step.took_row peers s m q t in spec.after_msg k peers w.parts w.sofar w.next)
  taken q s m (took.Row r reply fs) none = let w = step.took_row peers s m q (took.Row r reply fs) in ev q w.sofar none
  taken q s m (took.Spent b) none = none_held q.agenda.acting none

module _ (k : Surroundings) (peers : Peers) where
  mail : (p : Circumstance) (s : Sofar) (m : Option Message) → Ends k peers p (spec.from_msg k peers p s m)
  mail p s None none = ev (step.taught k p.number None) peers p (written s (step.by row.Msg0 p [] true)) none
  mail p s (Some m) none =
      let r = receive k peers p m in taken (step.taught k p.number (Some m)) peers r.parts s m r.took (reads_acting k peers p m ∙ none)

  pub fed_none : (p : Circumstance) (f : Feedback) (a : Option Acting) → p.agenda.acting ≡ a → (step.feed_on k p f a).parts.agenda.acting ≡ None
  fed_none p f None e = e
  fed_none p feedback.Done (Some a) e = refl
  fed_none p feedback.Failed (Some a) e = falls_acting k.plans p.number error.ActionFailed (step.none_acting p).agenda a.stack

  pub feed_none : (p : Circumstance) (kept : Option Feedback) → is_fed p.agenda.acting kept ≡ true → (step.feed k p kept).parts.agenda.acting ≡ None
  feed_none p None fed = never_told p.agenda.acting fed
  feed_none p (Some f) fed = fed_none p f p.agenda.acting refl

  feeds : (p : Circumstance) (s : Sofar) (kept : Option Feedback) (m : Option Message) → is_fed p.agenda.acting kept ≡ true
      → Awaited (spec.from_feed k peers p s kept m)
  feeds p s kept m fed = let w = step.feed k p kept in mail w.parts (written s w) m (feed_none p kept fed)

pub actions_are_awaited : ActionsAreAwaited
actions_are_awaited k peers p asks kept i fed =
    let w = step.percept p i.percepts in
    feeds k peers w.parts (written (spec.nothing_yet asks) w) kept i.message fed

-- what is so whatever the answer is
pub on_ok : {A E P : Type 0} (r : Result A E) → P → OnOk r P
on_ok (Ok x) h = h
on_ok (Err e) h = tt

-- ---- of an agent

awaits_or_none : (held : Option Acting) (awaits : Bool) → is_some held ≡ awaits → (awaits || is_fed held None) ≡ true
awaits_or_none None awaits e = subst (λ b. (b || true) ≡ true) e refl
awaits_or_none (Some a) awaits e = subst (λ b. (b || false) ≡ true) e refl

-- before a cycle
pub fed_before : (awaits : Bool) (held : Option Acting) (kept taken : Option Feedback) → awaits ≡ false → taken ≡ kept
    → (awaits || is_fed held kept) ≡ true → is_fed held taken ≡ true
fed_before true held kept taken free same h = cc
fed_before false held kept taken free same h = subst (λ f. is_fed held f ≡ true) (sym same) h

-- after one that came to this
pub awaited_after : (k : Surroundings) (peers : Peers) (p q : Circumstance) (asks next : ℕ) (taken kept : Option Feedback) (i : Input) (ls : List TraceLine) (t : Thought) (awaits : Bool)
    → is_fed p.agenda.acting taken ≡ true → spec.cycle k peers p asks taken i ≡ record { parts = q; asks = next; lines = ls; thought = t }
    → awaits ≡ asks_feedback t → kept ≡ None → (awaits || is_fed q.agenda.acting kept) ≡ true
awaited_after k peers p q asks next taken kept i ls t awaits fed came same none =
    let e : is_some q.agenda.acting ≡ asks_feedback t =
    subst (λ (r : spec.Ran). is_some r.parts.agenda.acting ≡ asks_feedback r.thought) came (actions_are_awaited k peers p asks taken i fed) in
    subst (λ f. (awaits || is_fed q.agenda.acting f) ≡ true) (sym none) (awaits_or_none q.agenda.acting awaits (e ∙ sym same))
