-- What the thoughts of agents carry: messages of the agent to agents, an action without variables, and nothing where they are quiet.
use Rattle.std.specs.Prelude.{◌≡◌, ℕ, zero, suc, Bool, true, false, ◌&&◌, refl, List, [], ◌∷◌, ◌++◌, length, map}
use Rattle.std.specs.Prelude.{Option, None, Some, IfSome, All, option_to_list}
use Rattle.std.proofs.lemmas.List.Elements.{All-nil, All-cons, All-append}
use Rattle.asl_term.specs.Exprs.{is_ground_literal}
use Rattle.asl_intend.specs.declared.entry.Means.{Means}
use Rattle.asl_intend.specs.declared.agenda.Event.{Event}
use Rattle.asl_exec_circumstance.specs.declared.rows.Row.TheVariants as row
use Rattle.asl_exec_circumstance.specs.declared.went.Went.{Went}
use Rattle.asl_exec_circumstance.specs.declared.went.Went.TheVariants as went
use Rattle.asl_exec_circumstance.specs.Circumstance.{Surroundings, Circumstance, Made}
use Rattle.asl_exec.specs.Exec.{exec}
use Rattle.mas_mind.specs.declared.mind.Message.{Message}
use Rattle.mas_mind.specs.declared.mind.Outs.{Outs}
use Rattle.mas_mind.specs.declared.mind.Thought.{Thought}
use Rattle.mas_mind.specs.declared.mind.Thought.TheVariants as thought
use Rattle.mas_mind.specs.declared.mind.Feedback.{Feedback}
use Rattle.mas_mind.specs.Minds.{IsAgent, IsFrom, AreEmpty}
use Rattle.asl_exec_circumstance.specs.declared.peers.Peers.{Peers}
use Rattle.asl_kqml.specs.declared.took.Took.{Took}
use Rattle.asl_kqml.specs.declared.took.Took.TheVariants as took
use Rattle.asl_kqml.specs.Receive.{receive}
use Rattle.asl_goals.specs.declared.acted.Acted.{Acted}
use Rattle.asl_goals.specs.declared.acted.Acted.TheVariants as acted
use Rattle.asl_goals.specs.Inside.{Did, act_inside}
use Rattle.asl_cycle.specs.declared.rows.TraceLine.{TraceLine}
use Rattle.asl_cycle.specs.declared.rows.TraceLine.TheVariants as line
use Rattle.asl_cycle.specs.declared.rows.Sofar.{Sofar}
use Rattle.asl_cycle.specs.declared.config.Related.{Related}
use Rattle.asl_cycle.specs.declared.config.Intended.{Intended}
use Rattle.asl_cycle.specs.declared.config.Applied.{Applied}
use Rattle.asl_cycle.specs.declared.config.Applied.TheVariants as applied
use Rattle.asl_cycle.specs.declared.config.After.{After}
use Rattle.asl_cycle.specs.declared.config.After.TheVariants as after
use Rattle.asl_cycle.specs.Steps.{Stepped, by, written, took_row, took_line, sends_line, falls_lines, of_acted, exec_by, taught}
use Rattle.asl_cycle.specs.Steps.{feed, sel_ev, rel_pl, appl_pl, sel_appl, add_im, sel_int, exec_step, clear_step}
use Rattle.asl_cycle.specs.Cycle as spec
use Rattle.asl_cycle.specs.inner.Acting.{IsGround, exec_ground, clear_ground}
use Rattle.asl_cycle.specs.inner.Posting.{AreFrom, deed_posts}
use Rattle.asl_cycle.specs.inner.Replying.{IsReplyFrom, reply_fits}
use Rattle.asl_cycle.specs.inner.Loud.{second_is_loud}

-- ---- what a cycle has asked for so far

-- nothing where all its lines are quiet
pub record AreNone (s : Sofar) : Type 0 where
  pub messages : s.messages ≡ []
  pub stop : s.stop ≡ false

-- messages of the agent `me` to some of n agents
pub record IsCalm (me n : ℕ) (s : Sofar) : Type 0 where
  pub messages : All (IsFrom me n) s.messages
  pub quiet : spec.quiet_lines s.lines ≡ true → AreNone s

before_it : (b : Bool) (ls more : List TraceLine) → (spec.quiet_lines (ls ++ more) ≡ true → spec.quiet_lines ls ≡ true)
    → (b && spec.quiet_lines (ls ++ more)) ≡ true → (b && spec.quiet_lines ls) ≡ true
before_it true ls more h e = h e
before_it false ls more h e = cc

quiet_before : (ls more : List TraceLine) → spec.quiet_lines (ls ++ more) ≡ true → spec.quiet_lines ls ≡ true
quiet_before [] more e = refl
quiet_before (l ∷ ls) more e = before_it (spec.quiet_line l) ls more (quiet_before ls more) e

clash : {A : Type 0} {b : Bool} → b ≡ true → b ≡ false → A
clash p q = cc

-- a row writes behind, and asks for nothing
calm_more : {N : Type 0} (me n : ℕ) (s : Sofar) (w : Stepped N) → IsCalm me n s → IsCalm me n (written s w)
calm_more me n s w h = record {
  messages = h.messages;
  quiet = λ e.
      let none : AreNone s = h.quiet (quiet_before s.lines (line.Rule w.row ∷ w.lines) e) in
      record { messages = none.messages; stop = none.stop };
}

-- ---- the thought of a cycle

pub record AreFine (me n : ℕ) (o : Outs) : Type 0 where
  pub action : IfSome o.action (λ l. is_ground_literal l ≡ true)
  pub messages : All (IsFrom me n) o.messages
  pub quiet : o.quiet ≡ true → AreEmpty o

abbrev pub IsFine : ℕ → ℕ → Thought → Type 0
IsFine me n (thought.Outs o) = AreFine me n o
IsFine me n thought.Spent = Unit {0}

module _ (k : Surroundings) (me n : ℕ) where
  abbrev Sends : Sofar → Type 0
  Sends s = All (IsFrom me n) s.messages

  abbrev Fine : spec.Ran → Type 0
  Fine r = IsFine me n r.thought

  goes : (rest : Circumstance → Sofar → List Means → spec.Ran) → ((p : Circumstance) (s : Sofar) (cur : List Means) → Sends s → Fine (rest p s cur))
      → (p : Circumstance) (s : Sofar) (cur : List Means) (a : After) → Sends s → IsGround a → Fine (spec.goes_to k rest p s cur a)
  goes rest h p s cur after.Clears m g = h p s cur m
  goes rest h p s cur after.Ends m g = record { action = tt; messages = m; quiet = λ q. cc }
  goes rest h p s cur (after.Acts l) m g = record { action = g; messages = m; quiet = λ q. cc }
  goes rest h p s cur after.Spends m g = tt

  clr : (left : ℕ) (p : Circumstance) (s : Sofar) (cur : List Means) → Sends s → Fine (spec.from_clr k left p s cur)
  clr zero p s cur m = record { action = tt; messages = m; quiet = λ q. cc }
  clr (suc left) p s cur m =
      let w = clear_step k p cur in
      goes (spec.from_clr k left) (clr left) w.parts (written s w) w.next.cur w.next.after m (clear_ground k p cur)

  all_clr : (p : Circumstance) (s : Sofar) (cur : List Means) → Sends s → Fine (spec.clears k p s cur)
  all_clr p s cur m = clr (suc (length cur)) p s cur m

  acted_sends : (peers : Peers) (s : Sofar) (d : Did) (a : Acted) → Sends s → AreFrom me n a → Sends (of_acted k peers s d a).sofar
  acted_sends peers s d (acted.Failed e) h f = h
  acted_sends peers s d (acted.Asked m) h f = All-append (IsFrom me n) s.messages (m ∷ []) h (All-cons (IsFrom me n) m [] f (All-nil (IsFrom me n)))
  acted_sends peers s d (acted.Gone fs) h f = h
  acted_sends peers s d (acted.Ok fs) h f = h
  acted_sends peers s d (acted.Sent messages) h f = All-append (IsFrom me n) s.messages messages h f
  acted_sends peers s d acted.Stop h f = h

module _ (k : Surroundings) (peers : Peers) where
  abbrev me : ℕ
  me = peers.me

  abbrev all : ℕ
  all = length peers.names

  abbrev Calm : Sofar → Type 0
  Calm = IsCalm me all

  by_sends : (s : Sofar) (x : Made) (w : Went) → All (IsFrom me all) s.messages → All (IsFrom me all) (exec_by k peers s x w).sofar.messages
  by_sends s x (went.Outer c) h =
      let d = act_inside k peers s.asks x.parts x.cur c in
      acted_sends k me all peers (record s { asks = d.asks }) d d.acted h (deed_posts k peers s.asks x.parts x.cur c)
  by_sends s x (went.Row r) h = h
  by_sends s x (went.Say text) h = h
  by_sends s x (went.Action l) h = h
  by_sends s x (went.Failed r fall) h = h
  by_sends s x (went.Spent r b) h = h

  execs : (p : Circumstance) (s : Sofar) (cur : List Means) → Calm s → Fine k me all (spec.from_exec k peers p s cur)
  execs p s cur h =
      let x = exec k p cur in
      let w = exec_step k peers p s cur in
      goes k me all (spec.clears k) (all_clr k me all) w.parts w.sofar w.next.cur w.next.after (by_sends s x x.went h.messages) (exec_ground k peers s p cur)

  -- a quiet end has nothing in it
  after_int : (p : Circumstance) (s : Sofar) (o : Option (List Means)) → Calm s → Fine k me all (spec.after_sel_int k peers p s o)
  after_int p s None h = record {
    action = tt;
    messages = h.messages;
    quiet = λ q. let none : AreNone s = h.quiet q in record { action = refl; messages = none.messages; stop = none.stop };
  }
  after_int p s (Some cur) h = execs p s cur h

  int : (p : Circumstance) (s : Sofar) → Calm s → Fine k me all (spec.from_sel_int k peers p s)
  int p s h = let w = sel_int p in after_int w.parts (written s w) w.next (calm_more me all s w h)

  appl : (p : Circumstance) (s : Sofar) (i : Intended) → Calm s → Fine k me all (spec.from_sel_appl k peers p s i)
  appl p s i h =
      let w = sel_appl p i in
      let v = add_im w.parts i in
      int v.parts (written (written s w) v) (calm_more me all (written s w) v (calm_more me all s w h))

  after_appl : (p : Circumstance) (s : Sofar) (a : Applied) → Calm s → Fine k me all (spec.after_appl_pl k peers p s a)
  after_appl p s (applied.Plan i) h = appl p s i h
  after_appl p s applied.Nothing h = int p s h
  after_appl p s applied.Spent h = tt

  appl_of : (p : Circumstance) (s : Sofar) (r : Related) → Calm s → Fine k me all (spec.from_appl_pl k peers p s r)
  appl_of p s r h = let w = appl_pl k p r in after_appl w.parts (written s w) w.next (calm_more me all s w h)

  after_rel : (p : Circumstance) (s : Sofar) (o : Option Related) → Calm s → Fine k me all (spec.after_rel_pl k peers p s o)
  after_rel p s None h = int p s h
  after_rel p s (Some r) h = appl_of p s r h

  rel : (p : Circumstance) (s : Sofar) (v : Event) → Calm s → Fine k me all (spec.from_rel_pl k peers p s v)
  rel p s v h = let w = rel_pl k p v in after_rel w.parts (written s w) w.next (calm_more me all s w h)

  after_ev : (p : Circumstance) (s : Sofar) (o : Option Event) → Calm s → Fine k me all (spec.after_sel_ev k peers p s o)
  after_ev p s None h = int p s h
  after_ev p s (Some v) h = rel p s v h

  ev : (p : Circumstance) (s : Sofar) → Calm s → Fine k me all (spec.from_sel_ev k peers p s)
  ev p s h = let w = sel_ev p in after_ev w.parts (written s w) w.next (calm_more me all s w h)

  with_reply : (ms : List Message) (reply : Option Message) → All (IsFrom me all) ms → IfSome reply (IsFrom me all)
      → All (IsFrom me all) (ms ++ option_to_list reply)
  with_reply ms None h g = All-append (IsFrom me all) ms [] h (All-nil (IsFrom me all))
  with_reply ms (Some m) h g = All-append (IsFrom me all) ms (m ∷ []) h (All-cons (IsFrom me all) m [] g (All-nil (IsFrom me all)))

  taken : (s : Sofar) (m : Message) (q : Circumstance) (t : Took) → Calm s → IsReplyFrom me all t
      → Fine k me all (let w = took_row peers s m q t in spec.after_msg k peers w.parts w.sofar w.next)
  taken s m q (took.Row r reply fs) h g =
      let w = took_row peers s m q (took.Row r reply fs) in
      let loud = second_is_loud s.lines (line.Rule r) (took_line peers m) (map (sends_line peers) (option_to_list reply) ++ falls_lines fs) refl in
      let calm : Calm w.sofar = record { messages = with_reply s.messages reply h.messages g; quiet = λ e. clash e loud } in
      ev q w.sofar calm
  taken s m q (took.Spent b) h g = tt

module _ (k : Surroundings) (peers : Peers) where
  abbrev known : ℕ
  known = length peers.names

  mail : (p : Circumstance) (s : Sofar) (m : Option Message) → IfSome m (λ x. IsAgent known x.from) → IsCalm peers.me known s
      → IsFine peers.me known (spec.from_msg k peers p s m).thought
  mail p s None sender h =
      ev (taught k p.number None) peers p (written s (by row.Msg0 p [] true)) (calm_more peers.me known s (by row.Msg0 p [] true) h)
  mail p s (Some m) sender h =
      let r = receive k peers p m in taken (taught k p.number (Some m)) peers s m r.parts r.took h (reply_fits k peers p m sender)

  pub feeds_fine : (p : Circumstance) (s : Sofar) (kept : Option Feedback) (m : Option Message) → IfSome m (λ x. IsAgent known x.from) → IsCalm peers.me known s
      → IsFine peers.me known (spec.from_feed k peers p s kept m).thought
  feeds_fine p s kept m sender h = let w = feed k p kept in mail w.parts (written s w) m sender (calm_more peers.me known s w h)
