-- Each cycle keeps the intentions.
use Rattle.std.proofs.Common.{◌≡◌, true, List, [], ◌∷◌, ◌++◌, Option, None, Some, refl, sym, subst, ◌∙◌, arith}
use Rattle.asl_term.specs.declared.syntax.LiteralOf.{LiteralOf}
use Rattle.asl_term.specs.declared.syntax.Term.{Term}
use Rattle.asl_term.specs.declared.syntax.Kind.{Kind}
use Rattle.asl_term.specs.declared.syntax.Kind.TheVariants as kind
use Rattle.asl_beliefs.specs.Changes.{updated}
use Rattle.asl_intend.specs.declared.entry.Means.{Means}
use Rattle.asl_intend.specs.declared.agenda.Acting.{Acting}
use Rattle.asl_intend.specs.declared.agenda.Agenda.{Agenda}
use Rattle.asl_intend.specs.declared.agenda.Error.{Error}
use Rattle.asl_intend.specs.declared.agenda.Error.TheVariants as error
use Rattle.asl_intend.specs.declared.agenda.Event.{Event}
use Rattle.asl_intend.specs.Means.{applied_means}
use Rattle.asl_intend.specs.Stacks.{head, without_head}
use Rattle.asl_plans.specs.declared.library.Choice.{Choice}
use Rattle.asl_plans.specs.Plans.{relevant}
use Rattle.asl_exec_circumstance.specs.declared.rows.Row.TheVariants as row
use Rattle.asl_exec_circumstance.specs.declared.went.Went.{Went}
use Rattle.asl_exec_circumstance.specs.declared.went.Went.TheVariants as went
use Rattle.asl_exec_circumstance.specs.Circumstance.{Surroundings, Circumstance, Made}
use Rattle.asl_exec.specs.Exec.{exec}
use Rattle.mas_mind.specs.declared.mind.Feedback.{Feedback}
use Rattle.mas_mind.specs.declared.mind.Feedback.TheVariants as feedback
use Rattle.mas_mind.specs.declared.mind.Message.{Message}
use Rattle.mas_mind.specs.declared.mind.Outs.{Outs}
use Rattle.mas_mind.specs.declared.mind.Thought.TheVariants as thought
use Rattle.asl_exec_circumstance.specs.declared.peers.Peers.{Peers}
use Rattle.asl_kqml.specs.declared.took.Took.{Took}
use Rattle.asl_kqml.specs.declared.took.Took.TheVariants as took
use Rattle.asl_kqml.specs.Receive.{receive}
use Rattle.asl_goals.specs.declared.acted.Acted.{Acted}
use Rattle.asl_goals.specs.declared.acted.Acted.TheVariants as acted
use Rattle.asl_goals.specs.Inside.{Did, act_inside}
use Rattle.asl_cycle.specs.declared.rows.Sofar.{Sofar}
use Rattle.asl_cycle.specs.declared.config.After.{After}
use Rattle.asl_cycle.specs.declared.config.After.TheVariants as after
use Rattle.asl_cycle.specs.declared.config.Applied.{Applied}
use Rattle.asl_cycle.specs.declared.config.Applied.TheVariants as applied
use Rattle.asl_exec_choose.specs.declared.chosen.Chosen.{Chosen}
use Rattle.asl_exec_choose.specs.declared.chosen.Chosen.TheVariants as chosen
use Rattle.asl_exec_choose.specs.Choosing.{choose}
use Rattle.asl_cycle.specs.declared.config.Intended.{Intended}
use Rattle.asl_cycle.specs.declared.config.Related.{Related}
use Rattle.asl_cycle.specs.Steps as step
use Rattle.asl_cycle.specs.Steps.{after_of, written}
use Rattle.asl_cycle.specs.Cycle as spec
use Rattle.asl_cycle.specs.Turns.{dropped_by_head, dropped_by_message}
use Rattle.asl_cycle.specs.Intentions.{Intention, Heap, held, Becomes, End, Executed, Fed, Feeds, Reads, Treated, Treats, Selects, CyclesKeepIntentions}
use Rattle.asl_cycle.proofs.Sums.{ready_held, told_held, becomes, begins, becomes_as}
use Rattle.asl_cycle.proofs.Failing.{fell_as, cleared}
use Rattle.asl_cycle.proofs.Executing.{Leads, Rows, executes}
use Rattle.asl_cycle.proofs.Ending.{Does, Deeds, deeds}
use Rattle.asl_cycle.proofs.Hearing.{hears}
use Rattle.asl_cycle.proofs.Letters.{reads_acting}
use Rattle.asl_cycle.proofs.Awaiting.{appl_keeps, rel_keeps, feed_none}

abbrev Ended : spec.Ran → Type 0
Ended r = (o : Outs) × (r.thought ≡ thought.Outs o)

-- ---- the selected stack

module _ (k : Surroundings) (c : List Means) where
  -- what a row leads to
  lands : (t : List Means) (before : Heap) (q : Circumstance) (s : Sofar) (a : After) → Leads k c t before (held q.agenda) a
      → Ended (spec.goes_to k (spec.clears k) q s t a) → Becomes (Executed k.plans c) before (held (spec.goes_to k (spec.clears k) q s t a).parts.agenda)
  lands t before q s after.Clears h e =
      becomes_as _ (Executed k.plans c) before (held q.agenda) (held (spec.clears k q s t).parts.agenda) h.begun (h.fate q.number) h.sums (cleared k q s t)
  lands t before q s after.Ends h e = h
  lands t before q s (after.Acts l) h e = h
  lands t before q s after.Spends h e = cc (e.1)

  acted_leads : (peers : Peers) (s : Sofar) (left : Heap) (d : Did) (a : Acted) → Does k c left d a
      → Leads k c (step.of_acted k peers s d a).next.cur left (held (step.of_acted k peers s d a).parts.agenda) (step.of_acted k peers s d a).next.after
  acted_leads peers s left d (acted.Failed e) h =
      becomes_as (Executed k.plans c) (Executed k.plans c) left (held d.parts.agenda) (held (step.of_acted k peers s d (acted.Failed e)).parts.agenda) []
      (λ x g. g) (λ f. let i = h.0 f in omega arith)
      (fell_as (Executed k.plans c) k.plans d.parts.number error.IaFailed d.parts.agenda d.cur
      (λ x g. subst (λ s. Executed k.plans s x) h.1 (Executed.Fails d.parts.number error.IaFailed x g)))
  acted_leads peers s left d (acted.Asked m) h = h
  acted_leads peers s left d (acted.Gone fs) h = h
  acted_leads peers s left d (acted.Ok fs) h = h
  acted_leads peers s left d (acted.Sent messages) h = h
  acted_leads peers s left d acted.Stop h = h

  -- of the others some have ended, and it became what it did
  record Turned (p : Circumstance) (r : spec.Ran) : Type 0 where
    left : Heap
    ended : End k.plans (dropped_by_head (head c)) (held p.agenda) left
    becomes : Becomes (Executed k.plans c) left (held r.parts.agenda)

  abbrev by_went : Peers → Sofar → Made → Went → spec.Ran
  by_went peers s x w = let v = step.exec_by k peers s x w in spec.goes_on k (spec.clears k) v.parts v.sofar v.next

  alone : (p : Circumstance) (s : Sofar) (x : Made) → Leads k c x.cur (held p.agenda) (held x.parts.agenda) (after_of x.went)
      → Ended (spec.goes_to k (spec.clears k) x.parts (written s (step.of_made x)) x.cur (after_of x.went))
      → Turned p (spec.goes_to k (spec.clears k) x.parts (written s (step.of_made x)) x.cur (after_of x.went))
  alone p s x h e = record {
    left = held p.agenda;
    ended = End.Same (held p.agenda) (held p.agenda) (λ f. refl);
    becomes = lands x.cur (held p.agenda) x.parts (written s (step.of_made x)) (after_of x.went) h e;
  }

  turned_by : (peers : Peers) (p : Circumstance) (s : Sofar) (x : Made) (w : Went) → w ≡ x.went → Rows k c p x w → Ended (by_went peers s x w)
      → Turned p (by_went peers s x w)
  turned_by peers p s x (went.Outer call) is h e =
      let one = deeds k peers s.asks p c call h.named in
      let two = subst (λ t. Deeds k c p (act_inside k peers s.asks p t call)) (sym h.cur) one in
      let three = subst (λ q. Deeds k c p (act_inside k peers s.asks q x.cur call)) (sym h.parts) two in
      let d = act_inside k peers s.asks x.parts x.cur call in
      let t = record s { asks = d.asks } in
      let v = step.of_acted k peers t d d.acted in
      record {
        left = three.left;
        ended = three.ended;
        becomes = lands v.next.cur three.left v.parts v.sofar v.next.after (acted_leads peers t three.left d d.acted three.does) e;
      }
  turned_by peers p s x (went.Row r) is h e =
      alone p s x (subst (λ w. Leads k c x.cur (held p.agenda) (held x.parts.agenda) (after_of w)) is h) e
  turned_by peers p s x (went.Say text) is h e =
      alone p s x (subst (λ w. Leads k c x.cur (held p.agenda) (held x.parts.agenda) (after_of w)) is h) e
  turned_by peers p s x (went.Action l) is h e =
      alone p s x (subst (λ w. Leads k c x.cur (held p.agenda) (held x.parts.agenda) (after_of w)) is h) e
  turned_by peers p s x (went.Failed r fall) is h e =
      alone p s x (subst (λ w. Leads k c x.cur (held p.agenda) (held x.parts.agenda) (after_of w)) is h) e
  turned_by peers p s x (went.Spent r b) is h e =
      alone p s x (subst (λ w. Leads k c x.cur (held p.agenda) (held x.parts.agenda) (after_of w)) is h) e

none_moves : (a : Agenda) → Becomes (λ x. x ≡ None) (held a) (held a)
none_moves a = begins (held a) (held a) [] (λ f. omega arith)

module _ (k : Surroundings) (peers : Peers) where
  int_by : (p : Circumstance) (s : Sofar) (stacks : List (List Means)) → p.agenda.running ≡ stacks → p.agenda.acting ≡ None
      → Ended (spec.and_then s (step.sel_int_on p stacks) (spec.after_sel_int k peers))
      → Selects k.plans p.agenda (spec.and_then s (step.sel_int_on p stacks) (spec.after_sel_int k peers)).parts.agenda
  int_by p s [] is none e = Selects.Idle is (none_moves p.agenda)
  int_by p s (c ∷ stacks) is none e =
      let w = step.sel_int_on p (c ∷ stacks) in
      let x = exec k w.parts c in
      let h = turned_by k c peers w.parts (written s w) x x.went refl (executes k w.parts c none) e in
      Selects.First c stacks h.left is h.ended h.becomes

  int : (p : Circumstance) (s : Sofar) → p.agenda.acting ≡ None → Ended (spec.from_sel_int k peers p s)
      → Selects k.plans p.agenda (spec.from_sel_int k peers p s).parts.agenda
  int p s none e = int_by p s p.agenda.running refl none e

  -- ---- the event that was taken

  record Handled (v : Event) (p : Circumstance) (r : spec.Ran) : Type 0 where
    treated : Agenda
    event : Becomes (Treated k.plans v) (held p.agenda) (held treated)
    turn : Selects k.plans treated r.parts.agenda

  planned : (p : Circumstance) (s : Sofar) (i : Intended) → p.agenda.acting ≡ None → Ended (spec.from_sel_appl k peers p s i)
      → Handled i.event p (spec.from_sel_appl k peers p s i)
  planned p s i none e =
      let w = step.sel_appl p i in
      let v = step.add_im w.parts i in
      let t = applied_means i.subst i.means ∷ i.event.stack in
      record {
        treated = v.parts.agenda;
        event = becomes (Treated k.plans i.event) (Some (Intention.Runs t)) (held p.agenda) (held v.parts.agenda) (Treated.Planned (applied_means i.subst i.means))
            (λ f. let h = ready_held f p.agenda (t ∷ []) in omega arith);
        turn = int v.parts (written (written s w) v) none e;
      }

  failed : (p : Circumstance) (v : Event) (e : Error) → Becomes (Treated k.plans v) (held p.agenda)
      (held (step.no_plan k row.Rel3 p v e (tt {0})).parts.agenda)
  failed p v e =
      let own = step.error_of v.error e in
      fell_as (Treated k.plans v) k.plans p.number own p.agenda (step.virtual v) (λ x h. Treated.Fails p.number own x h)

  dropped : (p : Circumstance) (v : Event) → v.trigger.kind ≡ kind.Belief → Becomes (Treated k.plans v) (held p.agenda) (held p.agenda)
  dropped p v is = becomes (Treated k.plans v) None (held p.agenda) (held p.agenda) (Treated.Dropped is) (λ f. omega arith)

  -- by the search for an applicable plan

  abbrev ApplTo : Event → Circumstance → Circumstance → Applied → Type 0
  ApplTo v p q (applied.Plan i) = (q.agenda ≡ p.agenda) × (i.event ≡ v)
  ApplTo v p q applied.Nothing = Becomes (Treated k.plans v) (held p.agenda) (held q.agenda)
  ApplTo v p q applied.Spent = Unit {0}

  not_applied : (p : Circumstance) (v : Event) (t : Kind) → v.trigger.kind ≡ t
      → let w = step.dropped_or_fails k row.Appl2 row.Appl3 p v t error.NoApplicable applied.Nothing in ApplTo v p w.parts w.next
  not_applied p v kind.Belief is = dropped p v is
  not_applied p v kind.Achieve is = failed p v error.NoApplicable
  not_applied p v kind.Test is = failed p v error.NoApplicable

  appl_to : (p : Circumstance) (v : Event) (c : Chosen) → let w = step.appl_pl_on k p v c in ApplTo v p w.parts w.next
  appl_to p v (chosen.Plan m t n) = (refl, refl)
  appl_to p v chosen.Nothing = not_applied p v v.trigger.kind refl
  appl_to p v (chosen.Spent b) = tt

  after_appl : (v : Event) (p q : Circumstance) (s : Sofar) (a : Applied) → q.agenda.acting ≡ None → ApplTo v p q a → Ended (spec.after_appl_pl k peers q s a)
      → Handled v p (spec.after_appl_pl k peers q s a)
  after_appl v p q s (applied.Plan i) none h e =
      let g = planned q s i none e in
      record {
        treated = g.treated;
        event = subst (λ b. Becomes (Treated k.plans v) (held b) (held g.treated)) h.0
            (subst (λ x. Becomes (Treated k.plans x) (held q.agenda) (held g.treated)) h.1 g.event);
        turn = g.turn;
      }
  after_appl v p q s applied.Nothing none h e = record { treated = q.agenda; event = h; turn = int q s none e }
  after_appl v p q s applied.Spent none h e = cc (e.1)

  appl : (p : Circumstance) (s : Sofar) (r : Related) → p.agenda.acting ≡ None → Ended (spec.from_appl_pl k peers p s r)
      → Handled r.event p (spec.from_appl_pl k peers p s r)
  appl p s r none e =
      let c = choose k p r.number r.choices in
      let w = step.appl_pl k p r in
      after_appl r.event p w.parts (written s w) w.next (appl_keeps k peers p r.event c ∙ none) (appl_to p r.event c) e

  -- by that for relevant plans

  abbrev RelTo : Event → Circumstance → Circumstance → Option Related → Type 0
  RelTo v p q None = Becomes (Treated k.plans v) (held p.agenda) (held q.agenda)
  RelTo v p q (Some r) = (q.agenda ≡ p.agenda) × (r.event ≡ v)

  not_related : (p : Circumstance) (v : Event) (t : Kind) (e : Error) → v.trigger.kind ≡ t
      → let w = step.dropped_or_fails k row.Rel2 row.Rel3 p v t e None in RelTo v p w.parts w.next
  not_related p v kind.Belief e is = dropped p v is
  not_related p v kind.Achieve e is = failed p v e
  not_related p v kind.Test e is = failed p v e

  rel_to : (p : Circumstance) (v : Event) (cs : List Choice) → let w = step.rel_pl_on k p v cs in RelTo v p w.parts w.next
  rel_to p v [] = not_related p v v.trigger.kind (step.irrelevant v.trigger.add v.trigger.kind) refl
  rel_to p v (c ∷ cs) = (refl, refl)

  after_rel : (v : Event) (p q : Circumstance) (s : Sofar) (o : Option Related) → q.agenda.acting ≡ None → RelTo v p q o → Ended (spec.after_rel_pl k peers q s o)
      → Handled v p (spec.after_rel_pl k peers q s o)
  after_rel v p q s None none h e = record { treated = q.agenda; event = h; turn = int q s none e }
  after_rel v p q s (Some r) none h e =
      let g = appl q s r none e in
      record {
        treated = g.treated;
        event = subst (λ b. Becomes (Treated k.plans v) (held b) (held g.treated)) h.0
            (subst (λ x. Becomes (Treated k.plans x) (held q.agenda) (held g.treated)) h.1 g.event);
        turn = g.turn;
      }

  rel : (p : Circumstance) (s : Sofar) (v : Event) → p.agenda.acting ≡ None → Ended (spec.from_rel_pl k peers p s v)
      → Handled v p (spec.from_rel_pl k peers p s v)
  rel p s v none e =
      let cs = relevant k.plans p.number v.trigger in
      let w = step.rel_pl k p v in
      after_rel v p w.parts (written s w) w.next (rel_keeps k peers p v cs ∙ none) (rel_to p v cs) e

  -- ---- the steps before

  record Selected (p : Circumstance) (r : spec.Ran) : Type 0 where
    treated : Agenda
    event : Treats k.plans p.agenda treated
    turn : Selects k.plans treated r.parts.agenda

  ev_by : (p : Circumstance) (s : Sofar) (events : List Event) → p.agenda.events ≡ events → p.agenda.acting ≡ None
      → Ended (spec.and_then s (step.sel_ev_on p events) (spec.after_sel_ev k peers))
      → Selected p (spec.and_then s (step.sel_ev_on p events) (spec.after_sel_ev k peers))
  ev_by p s [] is none e =
      let w = step.sel_ev_on p [] in
      record { treated = p.agenda; event = Treats.Idle is (none_moves p.agenda); turn = int w.parts (written s w) none e }
  ev_by p s (v ∷ events) is none e =
      let w = step.sel_ev_on p (v ∷ events) in
      let h = rel w.parts (written s w) v none e in
      record { treated = h.treated; event = Treats.Oldest v events is h.event; turn = h.turn }

  ev : (p : Circumstance) (s : Sofar) → p.agenda.acting ≡ None → Ended (spec.from_sel_ev k peers p s) → Selected p (spec.from_sel_ev k peers p s)
  ev p s none e = ev_by p s p.agenda.events refl none e

module _ (k : Surroundings) (peers : Peers) where
  -- behind a message the plans are those that it leaves
  record Heard (named : Option (LiteralOf Term)) (o : Option Message) (p : Circumstance) (r : spec.Ran) : Type 0 where
    read : Agenda
    message : Reads k.plans named p.agenda read
    treated : Agenda
    event : Treats (step.plans_after k.plans p.number o) read treated
    turn : Selects (step.plans_after k.plans p.number o) treated r.parts.agenda

  taken : (named : Option (LiteralOf Term)) (o : Option Message) (p q : Circumstance) (s : Sofar) (m : Message) (t : Took) → Reads k.plans named p.agenda q.agenda
      → q.agenda.acting ≡ None
      → Ended (let w = step.took_row peers s m q t in spec.after_msg (step.taught k p.number o) peers w.parts w.sofar w.next)
      → Heard named o p (let w = step.took_row peers s m q t in spec.after_msg (step.taught k p.number o) peers w.parts w.sofar w.next)
  taken named o p q s m (took.Row r reply fs) h none e =
      let w = step.took_row peers s m q (took.Row r reply fs) in
      let g = ev (step.taught k p.number o) peers q w.sofar none e in
      record { read = q.agenda; message = h; treated = g.treated; event = g.event; turn = g.turn }
  taken named o p q s m (took.Spent b) h none e = cc (e.1)

  mail : (p : Circumstance) (s : Sofar) (m : Option Message) → p.agenda.acting ≡ None → Ended (spec.from_msg k peers p s m)
      → Heard (dropped_by_message p.number m) m p (spec.from_msg k peers p s m)
  mail p s None none e =
      let g = ev (step.taught k p.number None) peers p (written s (step.by row.Msg0 p [] true)) none e in
      record { read = p.agenda; message = Reads.Begins (none_moves p.agenda); treated = g.treated; event = g.event; turn = g.turn }
  mail p s (Some m) none e =
      let r = receive k peers p m in
      taken (dropped_by_message p.number (Some m)) (Some m) p r.parts s m r.took (hears k peers p m) (reads_acting k peers p m ∙ none) e

  fed : (p : Circumstance) (f : Feedback) (a : Option Acting) → p.agenda.acting ≡ a → Feeds k.plans p.agenda (step.feed_on k p f a).parts.agenda
  fed p f None is = Feeds.Untold (none_moves p.agenda)
  fed p feedback.Done (Some a) is =
      let t = without_head a.stack in
      let b : Agenda = record p.agenda { acting = None } in
      Feeds.Told a is (becomes (Fed k.plans a) (Some (Intention.Runs t)) (held b) (held (record b { running = b.running ++ t ∷ [] })) Fed.Done
      (λ f. let e = ready_held f b (t ∷ []) in omega arith))
  fed p feedback.Failed (Some a) is =
      Feeds.Told a is (fell_as (Fed k.plans a) k.plans p.number error.ActionFailed (record p.agenda { acting = None }) a.stack (λ x h. Fed.Fails p.number x h))

  feed : (p : Circumstance) (kept : Option Feedback) → Feeds k.plans p.agenda (step.feed k p kept).parts.agenda
  feed p None = Feeds.Untold (none_moves p.agenda)
  feed p (Some f) = fed p f p.agenda.acting refl

  fed_number : (p : Circumstance) (f : Feedback) (a : Option Acting) → (step.feed_on k p f a).parts.number ≡ p.number
  fed_number p f None = refl
  fed_number p feedback.Done (Some a) = refl
  fed_number p feedback.Failed (Some a) = refl

  feed_number : (p : Circumstance) (kept : Option Feedback) → (step.feed k p kept).parts.number ≡ p.number
  feed_number p None = refl
  feed_number p (Some f) = fed_number p f p.agenda.acting

pub keep_intentions : CyclesKeepIntentions
keep_intentions k peers p asks kept i o fed is =
    let c = updated i.percepts p.beliefs in
    let w = step.percept p i.percepts in
    let s = written (spec.nothing_yet asks) w in
    let v = step.feed k w.parts kept in
    let h = mail k peers v.parts (written s v) i.message (feed_none k peers w.parts kept fed) (o, is) in
    record {
      seen = w.parts.agenda;
      percepts = begins (held p.agenda) (held w.parts.agenda) c.events (λ f. told_held f p.agenda c.events);
      fed = v.parts.agenda;
      feedback = feed k peers w.parts kept;
      read = h.read;
      message = subst (λ n. Reads k.plans (dropped_by_message n i.message) v.parts.agenda h.read) (feed_number k peers w.parts kept) h.message;
      treated = h.treated;
      event = subst (λ n. Treats (step.plans_after k.plans n i.message) h.read h.treated) (feed_number k peers w.parts kept) h.event;
      turn =
          subst (λ n. Selects (step.plans_after k.plans n i.message) h.treated (spec.cycle k peers p asks kept i).parts.agenda)
          (feed_number k peers w.parts kept) h.turn;
    }
