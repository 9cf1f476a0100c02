-- Each cycle takes the first of the stacks that run, and leaves of the others what no goal names, in their order.
use Rattle.std.proofs.Common.{◌≡◌, ℕ, zero, suc, List, [], ◌∷◌, ◌++◌, true, drop, length, Option, None, Some, refl, sym, ap, subst, ◌∙◌, append_assoc}
use Rattle.asl_term.specs.declared.syntax.LiteralOf.{LiteralOf}
use Rattle.asl_term.specs.declared.syntax.Term.{Term}
use Rattle.asl_term.specs.declared.syntax.Kind.{Kind}
use Rattle.asl_term.specs.declared.syntax.Kind.TheVariants as kind
use Rattle.asl_intend.specs.declared.entry.Means.{Means}
use Rattle.asl_intend.specs.declared.agenda.Acting.{Acting}
use Rattle.asl_intend.specs.Means.{applied_means}
use Rattle.asl_intend.specs.Stacks.{head, without_head}
use Rattle.asl_intend.specs.declared.agenda.Error.{Error}
use Rattle.asl_intend.specs.declared.agenda.Error.TheVariants as error
use Rattle.asl_intend.specs.declared.agenda.Event.{Event}
use Rattle.asl_plans.specs.declared.library.Choice.{Choice}
use Rattle.asl_plans.specs.Plans.{relevant}
use Rattle.asl_exec_circumstance.specs.declared.rows.Row.{Row}
use Rattle.asl_exec_circumstance.specs.declared.rows.Row.TheVariants as row
use Rattle.asl_exec_circumstance.specs.declared.went.Went.{Went}
use Rattle.asl_exec_circumstance.specs.declared.went.Went.TheVariants as went
use Rattle.asl_exec_circumstance.specs.Circumstance.{Surroundings, Circumstance, Made}
use Rattle.asl_exec.specs.Exec.{exec}
use Rattle.asl_exec_circumstance.specs.declared.peers.Peers.{Peers}
use Rattle.asl_kqml.specs.declared.took.Took.{Took}
use Rattle.asl_kqml.specs.declared.took.Took.TheVariants as took
use Rattle.asl_kqml.specs.Receive.{receive}
use Rattle.asl_goals.specs.declared.acted.Acted.{Acted}
use Rattle.asl_goals.specs.declared.acted.Acted.TheVariants as acted
use Rattle.asl_goals.specs.Inside.{Did, act_inside}
use Rattle.mas_mind.specs.declared.mind.Feedback.{Feedback}
use Rattle.mas_mind.specs.declared.mind.Feedback.TheVariants as feedback
use Rattle.mas_mind.specs.declared.mind.Message.{Message}
use Rattle.mas_mind.specs.declared.mind.Outs.{Outs}
use Rattle.mas_mind.specs.declared.mind.Thought.TheVariants as thought
use Rattle.asl_cycle.specs.declared.rows.Sofar.{Sofar}
use Rattle.asl_exec_choose.specs.declared.chosen.Chosen.{Chosen}
use Rattle.asl_exec_choose.specs.declared.chosen.Chosen.TheVariants as chosen
use Rattle.asl_exec_choose.specs.Choosing.{choose}
use Rattle.asl_cycle.specs.declared.config.Related.{Related}
use Rattle.asl_cycle.specs.declared.config.Intended.{Intended}
use Rattle.asl_cycle.specs.declared.config.Applied.{Applied}
use Rattle.asl_cycle.specs.declared.config.Applied.TheVariants as applied
use Rattle.asl_cycle.specs.declared.config.After.{After}
use Rattle.asl_cycle.specs.declared.config.After.TheVariants as after
use Rattle.asl_cycle.specs.Steps as step
use Rattle.asl_cycle.specs.Steps.{written}
use Rattle.asl_cycle.specs.Cycle as spec
use Rattle.asl_cycle.specs.Turns.{Left, TakesTurns, CyclesTakeTurns, OthersStay, CyclesKeepOthers, dropped_by_message, dropped_by_head, dropped_by_first}
use Rattle.asl_cycle.specs.inner.Acting.{IsSound, falls, clear_back, exec_running, exec_sound}
use Rattle.asl_cycle.proofs.Lefts.{Stacks, all_left, then_left, left_behind, none_lost}
use Rattle.asl_cycle.proofs.Leaving.{Leaves, leaves_all, leaves_front, leaves_then, leaves_same}
use Rattle.asl_cycle.proofs.Letters.{reads_leave}
use Rattle.asl_cycle.proofs.Deeds.{deed_leaves}

nothing_behind : (xs : Stacks) → xs ++ [] ≡ xs
nothing_behind [] = refl
nothing_behind (x ∷ xs) = ap (λ ys. x ∷ ys) (nothing_behind xs)

-- ---- from the selection on

-- only what goes back is behind
abbrev Behind : Stacks → spec.Ran → Type 0
Behind xs r = (back : Stacks) × (r.parts.agenda.running ≡ xs ++ back)

further : (xs ys : Stacks) (r : spec.Ran) (back : Stacks) → ys ≡ xs ++ back → Behind ys r → Behind xs r
further xs ys r back e h = (back ++ h.0, h.1 ∙ (ap (λ zs. zs ++ h.0) e ∙ append_assoc xs back h.0))

module _ (k : Surroundings) where
  goes : (rest : Circumstance → Sofar → List Means → spec.Ran) → ((p : Circumstance) (s : Sofar) (cur : List Means) → Behind p.agenda.running (rest p s cur))
      → (p : Circumstance) (s : Sofar) (cur : List Means) (a : After) → Behind p.agenda.running (spec.goes_to k rest p s cur a)
  goes rest h p s cur after.Clears = h p s cur
  goes rest h p s cur after.Ends = ([], sym (nothing_behind p.agenda.running))
  goes rest h p s cur (after.Acts l) = ([], sym (nothing_behind p.agenda.running))
  goes rest h p s cur after.Spends = ([], sym (nothing_behind p.agenda.running))

  clr : (n : ℕ) (p : Circumstance) (s : Sofar) (cur : List Means) → Behind p.agenda.running (spec.from_clr k n p s cur)
  clr zero p s cur = ([], sym (nothing_behind p.agenda.running))
  clr (suc n) p s cur =
      let w = step.clear_step k p cur in
      let b = clear_back k p cur in
      further p.agenda.running w.parts.agenda.running (spec.from_clr k (suc n) p s cur) b.0 b.1
      (goes (spec.from_clr k n) (clr n) w.parts (written s w) w.next.cur w.next.after)

  all_clr : (p : Circumstance) (s : Sofar) (cur : List Means) → Behind p.agenda.running (spec.clears k p s cur)
  all_clr p s cur = clr (suc (length cur)) p s cur

  acted_leaves : (named : Option (LiteralOf Term)) (peers : Peers) (s : Sofar) (xs : Stacks) (d : Did) (a : Acted) → Leaves named xs d.parts.agenda.running
      → Leaves named xs (step.of_acted k peers s d a).parts.agenda.running
  acted_leaves named peers s xs d (acted.Failed e) h =
      leaves_same named xs d.parts.agenda.running (step.of_acted k peers s d (acted.Failed e)).parts.agenda.running h
      (falls k d.parts.number error.IaFailed d.parts.agenda d.cur)
  acted_leaves named peers s xs d (acted.Asked m) h = h
  acted_leaves named peers s xs d (acted.Gone fs) h = h
  acted_leaves named peers s xs d (acted.Ok fs) h = h
  acted_leaves named peers s xs d (acted.Sent messages) h = h
  acted_leaves named peers s xs d acted.Stop h = h

  exec_leaves : (named : Option (LiteralOf Term)) (peers : Peers) (s : Sofar) (x : Made) (w : Went) → IsSound named w
      → Leaves named x.parts.agenda.running (step.exec_by k peers s x w).parts.agenda.running
  exec_leaves named peers s x (went.Outer c) is =
      let d = act_inside k peers s.asks x.parts x.cur c in
      let h = deed_leaves k peers s.asks x.parts x.cur c in
      acted_leaves named peers (record s { asks = d.asks }) x.parts.agenda.running d d.acted
      (subst (λ n. Leaves n x.parts.agenda.running d.parts.agenda.running) (sym is) h)
  exec_leaves named peers s x (went.Row r) is = leaves_all named x.parts.agenda.running x.parts.agenda.running refl
  exec_leaves named peers s x (went.Say text) is = leaves_all named x.parts.agenda.running x.parts.agenda.running refl
  exec_leaves named peers s x (went.Action l) is = leaves_all named x.parts.agenda.running x.parts.agenda.running refl
  exec_leaves named peers s x (went.Failed r fall) is = leaves_all named x.parts.agenda.running x.parts.agenda.running refl
  exec_leaves named peers s x (went.Spent r b) is = leaves_all named x.parts.agenda.running x.parts.agenda.running refl

module _ (k : Surroundings) (peers : Peers) where
  execs : (p : Circumstance) (s : Sofar) (cur : List Means)
      → Leaves (dropped_by_head (head cur)) p.agenda.running (spec.from_exec k peers p s cur).parts.agenda.running
  execs p s cur =
      let named = dropped_by_head (head cur) in
      let x = exec k p cur in
      let w = step.exec_step k peers p s cur in
      let r = spec.from_exec k peers p s cur in
      let h = goes k (spec.clears k) (all_clr k) w.parts w.sofar w.next.cur w.next.after in
      let e = exec_leaves k named peers s x x.went (exec_sound k p cur) in
      let l = leaves_then named x.parts.agenda.running w.parts.agenda.running r.parts.agenda.running h.0 e h.1 in
      subst (λ xs. Leaves named xs r.parts.agenda.running) (exec_running k p cur) l

  int_by : (p : Circumstance) (s : Sofar) (stacks : Stacks) → p.agenda.running ≡ stacks
      → Leaves (dropped_by_first stacks) (drop 1 stacks) (spec.and_then s (step.sel_int_on p stacks) (spec.after_sel_int k peers)).parts.agenda.running
  int_by p s [] e = leaves_all None [] p.agenda.running e
  int_by p s (c ∷ stacks) e = let w = step.sel_int_on p (c ∷ stacks) in execs w.parts (written s w) c

-- ---- up to the selection; a message drops the goal of this literal, or none does

module _ (k : Surroundings) (peers : Peers) (named : Option (LiteralOf Term)) where
  -- a rest of the cycle takes a turn, unless it ends by a spent budget
  abbrev Ordered : Circumstance → spec.Ran → Type 0
  Ordered p r = (o : Outs) → r.thought ≡ thought.Outs o → TakesTurns named p.agenda.running r.parts.agenda.running

  int : (p : Circumstance) (s : Sofar) → Ordered p (spec.from_sel_int k peers p s)
  int p s o e =
      let xs = p.agenda.running in
      let h = int_by k peers p s xs refl in
      record {
        woken = [];
        waiting = xs;
        wait = subst (λ ys. Left named ys xs) (sym (nothing_behind xs)) (all_left named xs);
        left = h.left;
        stay = h.stay;
        back = h.back;
        in_order = h.in_order;
      }

  -- of the stacks these are left before the selection, and some run too
  turns : (p q : Circumstance) (r : spec.Ran) → Leaves named p.agenda.running q.agenda.running → Ordered q r → Ordered p r
  turns p q r l h o is =
      let xs = p.agenda.running in
      let t = h o is in
      let same : (l.left ++ l.back) ++ t.woken ≡ l.left ++ (l.back ++ t.woken) = append_assoc l.left l.back t.woken in
      let now : q.agenda.running ++ t.woken ≡ l.left ++ (l.back ++ t.woken) = ap (λ ys. ys ++ t.woken) l.in_order ∙ same in
      record {
        woken = l.back ++ t.woken;
        waiting = t.waiting;
        wait = then_left named (xs ++ (l.back ++ t.woken)) (l.left ++ (l.back ++ t.woken)) t.waiting
            (left_behind named xs l.left (l.back ++ t.woken) l.stay) (subst (λ ys. Left named ys t.waiting) now t.wait);
        left = t.left;
        stay = t.stay;
        back = t.back;
        in_order = t.in_order;
      }

  wakes : (p q : Circumstance) (r : spec.Ran) (woken : Stacks) → q.agenda.running ≡ p.agenda.running ++ woken → Ordered q r → Ordered p r
  wakes p q r woken e h = turns p q r (leaves_front named p.agenda.running q.agenda.running woken e) h

  keeps : (p q : Circumstance) (r : spec.Ran) → q.agenda.running ≡ p.agenda.running → Ordered q r → Ordered p r
  keeps p q r e h = turns p q r (leaves_all named p.agenda.running q.agenda.running e) h

  appl : (p : Circumstance) (s : Sofar) (i : Intended) → Ordered p (spec.from_sel_appl k peers p s i)
  appl p s i =
      let w = step.sel_appl p i in
      let v = step.add_im w.parts i in
      let r = spec.from_sel_appl k peers p s i in
      wakes p v.parts r ((applied_means i.subst i.means ∷ i.event.stack) ∷ []) refl (int v.parts (written (written s w) v))

  dropped_keeps : {N : Type 0} (b f : Row) (p : Circumstance) (v : Event) (t : Kind) (e : Error) (next : N)
      → (step.dropped_or_fails k b f p v t e next).parts.agenda.running ≡ p.agenda.running
  dropped_keeps b f p v kind.Belief e next = refl
  dropped_keeps b f p v kind.Achieve e next = falls k p.number (step.error_of v.error e) p.agenda (step.virtual v)
  dropped_keeps b f p v kind.Test e next = falls k p.number (step.error_of v.error e) p.agenda (step.virtual v)

  appl_keeps : (p : Circumstance) (v : Event) (c : Chosen) → (step.appl_pl_on k p v c).parts.agenda.running ≡ p.agenda.running
  appl_keeps p v (chosen.Plan m t n) = refl
  appl_keeps p v chosen.Nothing = dropped_keeps row.Appl2 row.Appl3 p v v.trigger.kind error.NoApplicable applied.Nothing
  appl_keeps p v (chosen.Spent b) = refl

  after_appl : (p : Circumstance) (s : Sofar) (a : Applied) → Ordered p (spec.after_appl_pl k peers p s a)
  after_appl p s (applied.Plan i) = appl p s i
  after_appl p s applied.Nothing = int p s
  after_appl p s applied.Spent = λ o e. cc

  appl_of : (p : Circumstance) (s : Sofar) (r : Related) → Ordered p (spec.from_appl_pl k peers p s r)
  appl_of p s r =
      let w = step.appl_pl k p r in
      keeps p w.parts (spec.from_appl_pl k peers p s r) (appl_keeps p r.event (choose k p r.number r.choices)) (after_appl w.parts (written s w) w.next)

  rel_keeps : (p : Circumstance) (v : Event) (cs : List Choice) → (step.rel_pl_on k p v cs).parts.agenda.running ≡ p.agenda.running
  rel_keeps p v [] = dropped_keeps row.Rel2 row.Rel3 p v v.trigger.kind (step.irrelevant v.trigger.add v.trigger.kind) None
  rel_keeps p v (c ∷ cs) = refl

  after_rel : (p : Circumstance) (s : Sofar) (o : Option Related) → Ordered p (spec.after_rel_pl k peers p s o)
  after_rel p s None = int p s
  after_rel p s (Some r) = appl_of p s r

  rel : (p : Circumstance) (s : Sofar) (v : Event) → Ordered p (spec.from_rel_pl k peers p s v)
  rel p s v =
      let w = step.rel_pl k p v in
      keeps p w.parts (spec.from_rel_pl k peers p s v) (rel_keeps p v (relevant k.plans p.number v.trigger)) (after_rel w.parts (written s w) w.next)

  ev_keeps : (p : Circumstance) (events : List Event) → (step.sel_ev_on p events).parts.agenda.running ≡ p.agenda.running
  ev_keeps p [] = refl
  ev_keeps p (v ∷ events) = refl

  after_ev : (p : Circumstance) (s : Sofar) (o : Option Event) → Ordered p (spec.after_sel_ev k peers p s o)
  after_ev p s None = int p s
  after_ev p s (Some v) = rel p s v

  ev : (p : Circumstance) (s : Sofar) → Ordered p (spec.from_sel_ev k peers p s)
  ev p s =
      let w = step.sel_ev p in
      keeps p w.parts (spec.from_sel_ev k peers p s) (ev_keeps p p.agenda.events) (after_ev w.parts (written s w) w.next)

  taken : (p q : Circumstance) (s : Sofar) (m : Message) (t : Took) → Leaves named p.agenda.running q.agenda.running
      → Ordered p (let w = step.took_row peers s m q t in spec.after_msg k peers w.parts w.sofar w.next)
  taken p q s m (took.Row r reply fs) l =
      let w = step.took_row peers s m q (took.Row r reply fs) in turns p q (spec.from_sel_ev k peers q w.sofar) l (ev q w.sofar)
  taken p q s m (took.Spent b) l = λ o e. cc

module _ (k : Surroundings) (peers : Peers) where
  mail : (p : Circumstance) (s : Sofar) (m : Option Message) → Ordered k peers (dropped_by_message p.number m) p (spec.from_msg k peers p s m)
  mail p s None = ev (step.taught k p.number None) peers None p (written s (step.by row.Msg0 p [] true))
  mail p s (Some m) =
      let r = receive k peers p m in
      taken (step.taught k p.number (Some m)) peers (dropped_by_message p.number (Some m)) p r.parts s m r.took (reads_leave k peers p m)

  fed_wakes : (p : Circumstance) (f : Feedback) (a : Option Acting) → (woken : Stacks) × ((step.feed_on k p f a).parts.agenda.running ≡ p.agenda.running ++ woken)
  fed_wakes p f None = ([], sym (nothing_behind p.agenda.running))
  fed_wakes p feedback.Done (Some a) = (without_head a.stack ∷ [], refl)
  fed_wakes p feedback.Failed (Some a) =
      ([], falls k p.number error.ActionFailed (step.none_acting p).agenda a.stack ∙ sym (nothing_behind p.agenda.running))

  feed_wakes : (p : Circumstance) (kept : Option Feedback) → (woken : Stacks) × ((step.feed k p kept).parts.agenda.running ≡ p.agenda.running ++ woken)
  feed_wakes p None = ([], sym (nothing_behind p.agenda.running))
  feed_wakes p (Some f) = fed_wakes p f p.agenda.acting

  fed_number : (p : Circumstance) (f : Feedback) (a : Option Acting) → (step.feed_on k p f a).parts.number ≡ p.number
  fed_number p f None = refl
  fed_number p feedback.Done (Some a) = refl
  fed_number p feedback.Failed (Some a) = refl

  feed_number : (p : Circumstance) (kept : Option Feedback) → (step.feed k p kept).parts.number ≡ p.number
  feed_number p None = refl
  feed_number p (Some f) = fed_number p f p.agenda.acting

  feeds : (p : Circumstance) (s : Sofar) (kept : Option Feedback) (m : Option Message)
      → Ordered k peers (dropped_by_message p.number m) p (spec.from_feed k peers p s kept m)
  feeds p s kept m =
      let w = step.feed k p kept in
      let r = spec.from_feed k peers p s kept m in
      let h = feed_wakes p kept in
      let l = subst (λ n. Ordered k peers (dropped_by_message n m) w.parts r) (feed_number p kept) (mail w.parts (written s w) m) in
      wakes k peers (dropped_by_message p.number m) p w.parts r h.0 h.1 l

pub take_turns : CyclesTakeTurns
take_turns k peers p asks kept i =
    let w = step.percept p i.percepts in
    let r = spec.cycle k peers p asks kept i in
    keeps k peers (dropped_by_message p.number i.message) p w.parts r refl (feeds k peers w.parts (written (spec.nothing_yet asks) w) kept i.message)

-- ---- where no goal is dropped or ended

others_stay : (named : Option (LiteralOf Term)) (before after : Stacks) → named ≡ None → TakesTurns named before after → OthersStay before after
others_stay named before after none t =
    let waits : before ++ t.woken ≡ t.waiting = none_lost (before ++ t.woken) t.waiting (subst (λ n. Left n (before ++ t.woken) t.waiting) none t.wait) in
    let stays = λ (e : dropped_by_first t.waiting ≡ None). none_lost (drop 1 t.waiting) t.left (subst (λ n. Left n (drop 1 t.waiting) t.left) e t.stay) in
    let ends = λ (e : dropped_by_first t.waiting ≡ None). t.in_order ∙ ap (λ xs. xs ++ t.back) (sym (stays e)) in
    record {
      woken = t.woken;
      back = t.back;
      in_order = subst (λ xs. dropped_by_first xs ≡ None → after ≡ drop 1 xs ++ t.back) (sym waits) ends;
    }

pub keep_others : CyclesKeepOthers
keep_others k peers p asks kept i o e none =
    let r = spec.cycle k peers p asks kept i in
    others_stay (dropped_by_message p.number i.message) p.agenda.running r.parts.agenda.running none (take_turns k peers p asks kept i o e)
