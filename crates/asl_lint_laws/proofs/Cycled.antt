-- A cycle, step after step.
use Rattle.std.proofs.Common.{◌≡◌, ◌-◌, ◌++◌, ℕ, zero, suc, Bool, true, false, List, [], ◌∷◌, map, length, Option, Some, None, IfSome, option_to_list, slice_get, refl, sym, ap, ◌∙◌, subst}
use Rattle.std.specs.List.{AllByRecursion}
use Rattle.asl_term.specs.declared.syntax.AgentText.{AgentText}
use Rattle.asl_term.specs.declared.syntax.LiteralOf.{LiteralOf}
use Rattle.asl_term.specs.declared.syntax.Term.{Term}
use Rattle.asl_plans.specs.declared.entry.OwnedPlan.{OwnedPlan}
use Rattle.asl_intend.specs.declared.entry.Means.{Means}
use Rattle.asl_intend.specs.declared.agenda.Error.TheVariants as error
use Rattle.asl_intend.specs.declared.agenda.Event.{Event}
use Rattle.asl_exec_circumstance.specs.declared.rows.Row.TheVariants as row
use Rattle.asl_exec_circumstance.specs.declared.went.Went.{Went}
use Rattle.asl_exec_circumstance.specs.declared.went.Went.TheVariants as went
use Rattle.asl_exec_circumstance.specs.Circumstance.{Surroundings, Circumstance, Made, failed}
use Rattle.asl_exec.specs.Exec.{exec}
use Rattle.mas_mind.specs.declared.mind.Feedback.{Feedback}
use Rattle.mas_mind.specs.declared.mind.Input.{Input}
use Rattle.mas_mind.specs.declared.mind.Message.{Message}
use Rattle.asl_exec_circumstance.specs.declared.peers.Peers.{Peers}
use Rattle.asl_kqml.specs.declared.took.Took.{Took}
use Rattle.asl_kqml.specs.declared.took.Took.TheVariants as took
use Rattle.asl_kqml.specs.Receive.{receive}
use Rattle.asl_goals.specs.declared.acted.Acted.{Acted}
use Rattle.asl_goals.specs.declared.acted.Acted.TheVariants as acted
use Rattle.asl_goals.specs.Inside.{Did, act_inside}
use Rattle.asl_cycle.specs.declared.rows.TraceLine.{TraceLine}
use Rattle.asl_cycle.specs.declared.rows.TraceLine.TheVariants as line
use Rattle.asl_cycle.specs.declared.rows.Sofar.{Sofar}
use Rattle.asl_cycle.specs.declared.config.Related.{Related}
use Rattle.asl_cycle.specs.declared.config.Intended.{Intended}
use Rattle.asl_cycle.specs.declared.config.Applied.{Applied}
use Rattle.asl_cycle.specs.declared.config.Applied.TheVariants as applied
use Rattle.asl_cycle.specs.declared.config.After.{After}
use Rattle.asl_cycle.specs.declared.config.After.TheVariants as after
use Rattle.asl_cycle.specs.Agent.{surroundings}
use Rattle.asl_cycle.specs.Steps.{Stepped, Moved, Onward, by, written, writing, percept, feed, took_row, msg, plans_after, taught, sel_ev, rel_pl, appl_pl, sel_appl, add_im, sel_int, of_made, of_acted, exec_by, exec_step, clear_step, falls_lines, sends_line, took_line}
use Rattle.asl_cycle.specs.Cycle.{Ran, quiet_lines, ends, spends, goes_to, from_clr, clears, from_exec, after_sel_int, from_sel_int, from_sel_appl, after_appl_pl, from_appl_pl, after_rel_pl, from_rel_pl, after_sel_ev, from_sel_ev, after_msg, from_msg, from_feed, nothing_yet, cycle}
use Rattle.asl_lint_laws.specs.Agendas.{StackServed, EventServed}
use Rattle.asl_lint_laws.proofs.Later.{later_stack}
use Rattle.asl_lint_laws.specs.RowsServed.{AroundServed, PartsServed, CallServed, WentServed, MadeServed}
use Rattle.asl_lint_laws.proofs.Beliefs.{all_append}
use Rattle.asl_lint_laws.proofs.Executed.{exec_keeps}
use Rattle.asl_lint_laws.proofs.Failed.{failed_served}
use Rattle.asl_lint_laws.specs.Messages.{AreOwn, MessageServed, TookServed}
use Rattle.asl_lint_laws.proofs.Received.{receive_keeps}
use Rattle.asl_lint_laws.proofs.Stay.{plans_stay}
use Rattle.asl_lint_laws.specs.Deeds.{AreOpened, ActedServed, DidServed}
use Rattle.asl_lint_laws.proofs.Done.{deeds_keep}
use Rattle.asl_lint_laws.specs.Cycles.{NeverIrrelevant, InputServed, RanServed, CycleKeeps, AgentKeeps}
use Rattle.asl_lint_laws.proofs.Lines.{lines_append, falls_never, sends_never}
use Rattle.asl_lint_laws.proofs.Steps.{StepServed, Any, IfEvent, RelatedServed, IfRelated, IntendedServed, AppliedServed, IfStack, OnwardServed, percept_served, feed_served, sel_ev_served, rel_pl_served, appl_pl_served, sel_appl_served, add_im_served, sel_int_served, made_served, clear_step_served}

-- a message is there or not
reply_list : (P : Message → Type 0) (o : Option Message) → IfSome o P → AllByRecursion P (option_to_list o)
reply_list P None s = tt
reply_list P (Some m) s = (s, tt)

module _ (texts : List AgentText) (libs : List (List OwnedPlan)) (k : Surroundings) (peers : Peers) (begun : AreOpened texts libs) (mine : peers.me ≡ 0 → ⊥)
    (here : slice_get libs (peers.me - 1) ≡ Some k.plans) (own : AreOwn k.plans) (around : AroundServed peers.names texts k) where
  abbrev Served : Circumstance → Type 0
  Served = PartsServed peers.names texts k.plans

  abbrev Stack : ℕ → List Means → Type 0
  Stack n = StackServed peers.names texts k.plans n

  abbrev Result : Ran → Type 0
  Result r = RanServed peers.names texts libs k.plans r

  -- what a cycle has written and sent
  record SofarServed (s : Sofar) : Type 0 where
    lines : NeverIrrelevant s.lines
    messages : AllByRecursion (MessageServed libs) s.messages

  more : (s : Sofar) (ls : List TraceLine) (ms : List Message) → SofarServed s → NeverIrrelevant ls → AllByRecursion (MessageServed libs) ms
      → SofarServed (record s { lines = s.lines ++ ls; messages = s.messages ++ ms })
  more s ls ms a b c = record { lines = lines_append s.lines ls a.lines b; messages = all_append (MessageServed libs) s.messages ms a.messages c }

  written_served : {N : Type 0} (Next : ℕ → N → Type 0) (n : ℕ) (s : Sofar) (w : Stepped N) → SofarServed s → StepServed peers.names texts k around Next n w → SofarServed (written s w)
  written_served Next n s w a b = record { lines = lines_append s.lines (line.Rule w.row ∷ w.lines) a.lines (b.row, b.lines); messages = a.messages }

  -- ---- ends

  ends_served : (a : Option (LiteralOf Term)) (q : Bool) (p : Circumstance) (s : Sofar) → Served p → SofarServed s → Result (ends a q p s)
  ends_served a q p s t u = record { parts = t; lines = u.lines; thought = u.messages }

  spends_served : (p : Circumstance) (s : Sofar) → Served p → SofarServed s → Result (spends p s)
  spends_served p s t u = record { parts = t; lines = u.lines; thought = tt }

  -- ---- Clr

  goes_served : (rest : Circumstance → Sofar → List Means → Ran) → ((p : Circumstance) (s : Sofar) (cur : List Means) → Served p → SofarServed s → Stack p.number cur → Result (rest p s cur))
      → (p : Circumstance) (s : Sofar) (cur : List Means) (a : After) → Served p → SofarServed s → Stack p.number cur → Result (goes_to k rest p s cur a)
  goes_served rest f p s cur after.Clears t u c = f p s cur t u c
  goes_served rest f p s cur after.Ends t u c = ends_served None false p s t u
  goes_served rest f p s cur (after.Acts l) t u c = ends_served (Some l) false p s t u
  goes_served rest f p s cur after.Spends t u c = spends_served p s t u

  clr_served : (n : ℕ) (p : Circumstance) (s : Sofar) (cur : List Means) → Served p → SofarServed s → Stack p.number cur → Result (from_clr k n p s cur)
  clr_served zero p s cur t u c = ends_served None false p s t u
  clr_served (suc n) p s cur t u c =
      let w = clear_step k p cur in
      let x = clear_step_served peers.names texts k around p t cur c in
      goes_served (from_clr k n) (clr_served n) w.parts (written s w) w.next.cur w.next.after x.parts (written_served (OnwardServed peers.names texts k around) p.number s w u x) x.next

  clears_served : (p : Circumstance) (s : Sofar) (cur : List Means) → Served p → SofarServed s → Stack p.number cur → Result (clears k p s cur)
  clears_served p s cur t u c = clr_served (suc (length cur)) p s cur t u c

  -- ---- Exec

  -- a step that may send messages
  record MovedServed (w : Moved Onward) : Type 0 where
    parts : Served w.parts
    sofar : SofarServed w.sofar
    cur : Stack w.parts.number w.next.cur

  made_moved : (n : ℕ) (s : Sofar) (x : Made) → SofarServed s → MadeServed peers.names texts k.plans n x → MovedServed (writing s (of_made x))
  made_moved n s x u m =
      let w = made_served peers.names texts k around n x m in
      record { parts = w.parts; sofar = written_served (OnwardServed peers.names texts k around) n s (of_made x) u w; cur = w.next }

  acted_served : (n : ℕ) (s : Sofar) (d : Did) → SofarServed s → DidServed peers.names texts libs k.plans n d → (a : Acted) → ActedServed libs a
      → MovedServed (of_acted k peers s d a)
  acted_served n s d u t (acted.Failed e) z =
      made_moved d.parts.number s (failed k row.IaFail error.IaFailed d.parts d.cur) u
      (failed_served peers.names texts k around row.IaFail refl error.IaFailed d.parts d.cur t.parts t.cur)
  acted_served n s d u t (acted.Asked m) z = record {
    parts = t.parts;
    sofar = more s (line.Rule row.AskOut ∷ sends_line peers m ∷ []) (m ∷ []) u (refl, (refl, tt)) (z, tt);
    cur = t.cur;
  }
  acted_served n s d u t (acted.Gone falls) z = record {
    parts = t.parts;
    sofar = record { lines = lines_append s.lines (line.Rule row.IaGone ∷ falls_lines falls) u.lines (refl, falls_never falls); messages = u.messages };
    cur = t.cur;
  }
  acted_served n s d u t (acted.Ok falls) z = record {
    parts = t.parts;
    sofar = record { lines = lines_append s.lines (line.Rule row.IaOk ∷ falls_lines falls) u.lines (refl, falls_never falls); messages = u.messages };
    cur = t.cur;
  }
  acted_served n s d u t (acted.Sent messages) z = record {
    parts = t.parts;
    sofar = more s (line.Rule row.IaOk ∷ map (sends_line peers) messages) messages u (refl, sends_never peers messages) z;
    cur = t.cur;
  }
  acted_served n s d u t acted.Stop z = record {
    parts = t.parts;
    sofar = record { lines = lines_append s.lines (line.Rule row.IaOk ∷ line.Stops ∷ []) u.lines (refl, (refl, tt)); messages = u.messages };
    cur = t.cur;
  }

  exec_moved : (n : ℕ) (s : Sofar) (x : Made) → SofarServed s → MadeServed peers.names texts k.plans n x → MovedServed (exec_by k peers s x x.went)
  exec_moved n s x u m = go x.went refl where
    other : MovedServed (writing s (of_made x))
    other = made_moved n s x u m

    go : (w : Went) → x.went ≡ w → MovedServed (exec_by k peers s x w)
    go (went.Outer c) e =
        let call : CallServed peers.names texts k.plans x.parts.number c = subst (λ w. WentServed peers.names texts k.plans x.parts.number w) e m.went in
        let d = act_inside k peers s.asks x.parts x.cur c in
        let t = deeds_keep texts libs k peers s.asks x.parts x.cur c begun mine around m.parts m.cur call in
        acted_served x.parts.number (record s { asks = d.asks }) d (record { lines = u.lines; messages = u.messages }) t d.acted t.acted
    go (went.Row r) e = other
    go (went.Say t) e = other
    go (went.Action l) e = other
    go (went.Failed r f) e = other
    go (went.Spent r b) e = other

  exec_served : (p : Circumstance) (s : Sofar) (cur : List Means) → Served p → SofarServed s → Stack p.number cur → Result (from_exec k peers p s cur)
  exec_served p s cur t u c =
      let w = exec_step k peers p s cur in
      let x = exec_moved p.number s (exec k p cur) u (exec_keeps peers.names texts k p cur around t c) in
      goes_served (clears k) clears_served w.parts w.sofar w.next.cur w.next.after x.parts x.sofar x.cur

  -- ---- from SelInt back to Percept

  sel_int_from : (p : Circumstance) (s : Sofar) → Served p → SofarServed s → Result (from_sel_int k peers p s)
  sel_int_from p s t u =
      let w = sel_int p in
      let x = sel_int_served peers.names texts k around p t in
      go w.next x.next x.parts (written_served (IfStack peers.names texts k around) p.number s w u x) where
        go : (o : Option (List Means)) → IfSome o (Stack (sel_int p).parts.number) → Served (sel_int p).parts → SofarServed (written s (sel_int p))
            → Result (after_sel_int k peers (sel_int p).parts (written s (sel_int p)) o)
        go None c t u = ends_served None (quiet_lines (written s (sel_int p)).lines) (sel_int p).parts (written s (sel_int p)) t u
        go (Some cur) c t u = exec_served (sel_int p).parts (written s (sel_int p)) cur t u c

  sel_appl_from : (p : Circumstance) (s : Sofar) (i : Intended) → Served p → SofarServed s → IntendedServed peers.names texts k around p.number i
      → Result (from_sel_appl k peers p s i)
  sel_appl_from p s i t u a =
      let w = sel_appl p i in
      let x = sel_appl_served peers.names texts k around p t i a in
      let v = written_served (Any peers.names texts k around) p.number s w u x in
      let y = add_im_served peers.names texts k around w.parts x.parts i a.means (later_stack peers.names texts k.plans p.number i.next a.next i.event.stack a.stack) in
      let z = written_served (Any peers.names texts k around) i.next (written s w) (add_im w.parts i) v y in
      sel_int_from (add_im w.parts i).parts (written (written s w) (add_im w.parts i)) y.parts z

  appl_pl_from : (p : Circumstance) (s : Sofar) (r : Related) → Served p → SofarServed s → RelatedServed peers.names texts k around p.number r → Result (from_appl_pl k peers p s r)
  appl_pl_from p s r t u e =
      let w = appl_pl k p r in
      let x = appl_pl_served peers.names texts k around p t r e in
      go w.next x.next x.parts (written_served (AppliedServed peers.names texts k around) p.number s w u x) where
        go : (a : Applied) → AppliedServed peers.names texts k around (appl_pl k p r).parts.number a → Served (appl_pl k p r).parts → SofarServed (written s (appl_pl k p r))
            → Result (after_appl_pl k peers (appl_pl k p r).parts (written s (appl_pl k p r)) a)
        go (applied.Plan i) a t u = sel_appl_from (appl_pl k p r).parts (written s (appl_pl k p r)) i t u a
        go applied.Nothing a t u = sel_int_from (appl_pl k p r).parts (written s (appl_pl k p r)) t u
        go applied.Spent a t u = spends_served (appl_pl k p r).parts (written s (appl_pl k p r)) t u

  rel_pl_from : (p : Circumstance) (s : Sofar) (v : Event) → Served p → SofarServed s → EventServed peers.names texts k.plans p.number v → Result (from_rel_pl k peers p s v)
  rel_pl_from p s v t u e =
      let w = rel_pl k p v in
      let x = rel_pl_served peers.names texts k around p t v e in
      go w.next x.next x.parts (written_served (IfRelated peers.names texts k around) p.number s w u x) where
        go : (o : Option Related) → IfSome o (RelatedServed peers.names texts k around (rel_pl k p v).parts.number) → Served (rel_pl k p v).parts → SofarServed (written s (rel_pl k p v))
            → Result (after_rel_pl k peers (rel_pl k p v).parts (written s (rel_pl k p v)) o)
        go None a t u = sel_int_from (rel_pl k p v).parts (written s (rel_pl k p v)) t u
        go (Some r) a t u = appl_pl_from (rel_pl k p v).parts (written s (rel_pl k p v)) r t u a

  sel_ev_from : (p : Circumstance) (s : Sofar) → Served p → SofarServed s → Result (from_sel_ev k peers p s)
  sel_ev_from p s t u =
      let w = sel_ev p in
      let x = sel_ev_served peers.names texts k around p t in
      go w.next x.next x.parts (written_served (IfEvent peers.names texts k around) p.number s w u x) where
        go : (o : Option Event) → IfSome o (EventServed peers.names texts k.plans (sel_ev p).parts.number) → Served (sel_ev p).parts → SofarServed (written s (sel_ev p))
            → Result (after_sel_ev k peers (sel_ev p).parts (written s (sel_ev p)) o)
        go None a t u = sel_int_from (sel_ev p).parts (written s (sel_ev p)) t u
        go (Some v) a t u = rel_pl_from (sel_ev p).parts (written s (sel_ev p)) v t u a

  -- ---- Msg

  -- the plans stay as they are
  same_around : (n : ℕ) (o : Option Message) → IfSome o (λ m. (m.to - 1 ≡ peers.me - 1) × MessageServed libs m) → taught k n o ≡ k
  same_around n None s = refl
  same_around n (Some m) s = (λ i. record k { plans = plans_stay libs k.plans n m own s.1 i })

  abbrev Goes : Moved Bool → Type 0
  Goes w = Result (after_msg k peers w.parts w.sofar w.next)

  took_from : (s : Sofar) (m : Message) (p : Circumstance) → Served p → SofarServed s → (t : Took) → TookServed libs t → Goes (took_row peers s m p t)
  took_from s m p t u (took.Row r reply falls) a =
      let ms = option_to_list reply in
      sel_ev_from p (record s { lines = s.lines ++ line.Rule r ∷ took_line peers m ∷ (map (sends_line peers) ms ++ falls_lines falls); messages = s.messages ++ ms }) t
      (more s (line.Rule r ∷ took_line peers m ∷ (map (sends_line peers) ms ++ falls_lines falls)) ms u
      (a.0, (refl, lines_append (map (sends_line peers) ms) (falls_lines falls) (sends_never peers ms) (falls_never falls))) (reply_list (MessageServed libs) reply a.1))
  took_from s m p t u (took.Spent b) a =
      spends_served p (record s { lines = s.lines ++ line.Rule row.AskSpent ∷ took_line peers m ∷ line.Spent b ∷ [] }) t
      (record { lines = lines_append s.lines (line.Rule row.AskSpent ∷ took_line peers m ∷ line.Spent b ∷ []) u.lines (refl, (refl, (refl, tt))); messages = u.messages })

  msg_from : (p : Circumstance) (s : Sofar) (o : Option Message) → Served p → SofarServed s → IfSome o (λ m. (m.to - 1 ≡ peers.me - 1) × MessageServed libs m) → Goes (msg k peers p s o)
  msg_from p s None t u a =
      sel_ev_from p (written s (by row.Msg0 p [] true)) t (record { lines = lines_append s.lines (line.Rule row.Msg0 ∷ []) u.lines (refl, tt); messages = u.messages })
  msg_from p s (Some m) t u a =
      let at : slice_get libs (m.to - 1) ≡ Some k.plans = ap (slice_get libs) a.0 ∙ here in
      let r = receive_keeps peers.names texts libs k peers p m around t mine at a.1 in
      took_from s m (receive k peers p m).parts r.parts u (receive k peers p m).took r.took

  from_msg_served : (p : Circumstance) (s : Sofar) (o : Option Message) → Served p → SofarServed s → IfSome o (λ m. (m.to - 1 ≡ peers.me - 1) × MessageServed libs m)
      → Result (from_msg k peers p s o)
  from_msg_served p s o t u a =
      let w = msg k peers p s o in
      subst (λ z. Result (after_msg z peers w.parts w.sofar w.next)) (sym (same_around p.number o a)) (msg_from p s o t u a)

  feed_from : (p : Circumstance) (s : Sofar) (f : Option Feedback) (o : Option Message) → Served p → SofarServed s → IfSome o (λ m. (m.to - 1 ≡ peers.me - 1) × MessageServed libs m)
      → Result (from_feed k peers p s f o)
  feed_from p s f o t u a =
      let w = feed k p f in
      let x = feed_served peers.names texts k around p t f in
      from_msg_served w.parts (written s w) o x.parts (written_served (Any peers.names texts k around) p.number s w u x) a

  cycle_served : (p : Circumstance) (asks : ℕ) (f : Option Feedback) (i : Input) → Served p → InputServed libs peers.me i → Result (cycle k peers p asks f i)
  cycle_served p asks f i t a =
      let s = nothing_yet asks in
      let w = percept p i.percepts in
      let x = percept_served peers.names texts k around p t i.percepts a.percepts in
      feed_from w.parts (written s w) f i.message x.parts (written_served (Any peers.names texts k around) p.number s w (record { lines = tt; messages = tt }) x) a.message

pub cycle_keeps : CycleKeeps
cycle_keeps texts libs k peers p asks kept i begun mine here own around parts input = cycle_served texts libs k peers begun mine here own around p asks kept i parts input

-- ---- an agent

after_plans : (libs : List (List OwnedPlan)) (me : ℕ) (plans : List OwnedPlan) (n : ℕ) (i : Input) → AreOwn plans → InputServed libs me i → plans_after plans n i.message ≡ plans
after_plans libs me plans n i own a = go i.message a.message where
  go : (o : Option Message) → IfSome o (λ m. (m.to - 1 ≡ me - 1) × MessageServed libs m) → plans_after plans n o ≡ plans
  go None s = refl
  go (Some m) s = plans_stay libs plans n m own s.1

pub agent_keeps : AgentKeeps
agent_keeps texts libs m i begun s input =
    let k = surroundings m in
    let r = cycle_keeps texts libs k m.peers m.parts m.asks m.kept i begun s.number s.plans s.own s.around s.parts input in
    let same = after_plans libs m.peers.me m.plans m.parts.number i s.own input in
    record {
      mind = record {
        number = s.number;
        plans = s.plans ∙ ap (λ z. Some z) (sym same);
        own = subst AreOwn (sym same) s.own;
        around = subst (λ (z : List OwnedPlan). AroundServed m.peers.names texts (record k { plans = z })) (sym same) s.around;
        parts = subst (λ (z : List OwnedPlan). PartsServed m.peers.names texts z (cycle k m.peers m.parts m.asks m.kept i).parts) (sym same) r.parts;
      };
      lines = r.lines;
      thought = r.thought;
    }
