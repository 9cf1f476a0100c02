-- The promises of a mind hold of agents.
use Rattle.std.specs.Prelude.{◌≡◌, ◌+◌, ℕ, Bool, true, false, refl, List, [], ◌∷◌, ◌++◌, length, Option, None, Some, IfSome}
use Rattle.std.proofs.Common.{sym, ap, subst, ◌∙◌, arith}
use Rattle.std.proofs.lemmas.List.Elements.{All-nil}
use Rattle.asl_term.specs.declared.syntax.LiteralOf.{LiteralOf}
use Rattle.asl_term.specs.declared.syntax.Term.{Term}
use Rattle.asl_term.specs.declared.syntax.Trigger.{Trigger}
use Rattle.asl_intend.specs.declared.entry.Means.{Means}
use Rattle.asl_intend.specs.declared.agenda.Event.{Event}
use Rattle.asl_intend.specs.declared.agenda.Acting.{Acting}
use Rattle.asl_beliefs.specs.Changes.{updated}
use Rattle.asl_exec_circumstance.specs.declared.rows.Row.TheVariants as row
use Rattle.asl_exec_circumstance.specs.Circumstance.{Surroundings, Circumstance, believing}
use Rattle.mas_mind.specs.declared.mind.Thought.{Thought}
use Rattle.mas_mind.specs.declared.mind.Thought.TheVariants as thought
use Rattle.mas_mind.specs.declared.mind.Feedback.{Feedback}
use Rattle.mas_mind.specs.declared.mind.Feedback.TheVariants as feedback
use Rattle.mas_mind.specs.declared.mind.Input.{Input}
use Rattle.mas_mind.specs.declared.mind.Message.{Message}
use Rattle.mas_mind.specs.Minds.{Grows, AreLawful, IsAgent, IsFor, IsFrom, is_quiet, SendsNothing}
use Rattle.asl_exec_circumstance.specs.declared.peers.Peers.{Peers}
use Rattle.asl_cycle.specs.declared.rows.TraceLine.{TraceLine}
use Rattle.asl_cycle.specs.declared.rows.TraceLine.TheVariants as line
use Rattle.asl_cycle.specs.declared.rows.Sofar.{Sofar}
use Rattle.asl_cycle.specs.Steps.{by, written, percept_on, feed, feed_on, sel_ev_on, sel_int_on, taught}
use Rattle.asl_cycle.specs.Cycle as spec
use Rattle.asl_cycle.specs.Trace.{shown}
use Rattle.asl_cycle.specs.Agent.{Mindset, surroundings, agent_cycle, told, agent_kind}
use Rattle.asl_cycle.specs.inner.Thoughts.{IsCalm, IsFine, feeds_fine}
use Rattle.asl_cycle.specs.inner.Loud.{is_loud, execs, rel, reads, mail, feeds, feeds_message}
use Rattle.asl_cycle.specs.inner.Still.{updated_quiet}

-- ---- thoughts

pub clash : {A : Type 0} {b : Bool} → b ≡ true → b ≡ false → A
clash p q = cc

-- a cycle begins with nothing
calm_start : (me n asks : ℕ) (events : List Trigger) (beliefs : List (LiteralOf Term)) (p : Circumstance)
    → IsCalm me n (written (spec.nothing_yet asks) (percept_on p (record { beliefs = beliefs; events = events })))
calm_start me n asks events beliefs p = record { messages = All-nil (IsFrom me n); quiet = λ e. record { messages = refl; stop = refl } }

cycle_fine : (k : Surroundings) (peers : Peers) (p : Circumstance) (asks : ℕ) (kept : Option Feedback) (i : Input)
    → IfSome i.message (λ m. IsAgent (length peers.names) m.from) → IsFine peers.me (length peers.names) (spec.cycle k peers p asks kept i).thought
cycle_fine k peers p asks kept i sender =
    let c = updated i.percepts p.beliefs in
    let w = percept_on p c in
    feeds_fine k peers w.parts (written (spec.nothing_yet asks) w) kept i.message sender (calm_start peers.me (length peers.names) asks c.events c.beliefs p)

nothing_sent : (me n : ℕ) (t : Thought) → IsFine me n t → is_quiet t ≡ true → SendsNothing t
nothing_sent me n (thought.Outs o) f q = f.quiet q
nothing_sent me n thought.Spent f q = cc

-- a quiet cycle has no message
quiet_feeds : (k : Surroundings) (peers : Peers) (p : Circumstance) (s : Sofar) (kept : Option Feedback) (m : Option Message)
    → IsCalm peers.me (length peers.names) s → is_quiet (spec.from_feed k peers p s kept m).thought ≡ true
    → SendsNothing (spec.from_feed k peers p s kept m).thought
quiet_feeds k peers p s kept None h q =
    nothing_sent peers.me (length peers.names) (spec.from_feed k peers p s kept None).thought (feeds_fine k peers p s kept None tt h) q
quiet_feeds k peers p s kept (Some m) h q = clash q (feeds_message k peers p s kept m)

pub quiet_sends_nothing : (m : Mindset) (i : Input) → is_quiet (agent_cycle m i).thought ≡ true → SendsNothing (agent_cycle m i).thought
quiet_sends_nothing m i q =
    let c = updated i.percepts m.parts.beliefs in
    let w = percept_on m.parts c in
    quiet_feeds (surroundings m) m.peers w.parts (written (spec.nothing_yet m.asks) w) m.kept i.message
    (calm_start m.peers.me (length m.peers.names) m.asks c.events c.beliefs m.parts) q

fine_lawful : (me agents : ℕ) (t : Thought) → IsFine me agents t → AreLawful me agents t
fine_lawful me agents (thought.Outs o) f = record { action = f.action; messages = f.messages }
fine_lawful me agents thought.Spent f = tt

sender_of : (me agents : ℕ) (m : Option Message) → IfSome m (IsFor me agents) → IfSome m (λ x. IsAgent agents x.from)
sender_of me agents None h = tt
sender_of me agents (Some m) h = h.sender

-- the thought of a cycle that came to this
pub lawful_of : (k : Surroundings) (peers seen : Peers) (p q : Circumstance) (asks next : ℕ) (kept : Option Feedback)
    → (i : Input) (ls : List TraceLine) (t : Thought) → peers ≡ seen → IfSome i.message (IsFor seen.me (length seen.names))
    → spec.cycle k peers p asks kept i ≡ record { parts = q; asks = next; lines = ls; thought = t } → AreLawful seen.me (length seen.names) t
lawful_of k peers seen p q asks next kept i ls t same sent e =
    let agents = length seen.names in
    let r = spec.cycle k seen p asks kept i in
    let came : r ≡ record { parts = q; asks = next; lines = ls; thought = t } = ap (λ x. spec.cycle k x p asks kept i) (sym same) ∙ e in
    subst (λ x. AreLawful seen.me agents x.thought) came
    (fine_lawful seen.me agents r.thought (cycle_fine k seen p asks kept i (sender_of seen.me agents i.message sent)))

-- ---- what goes on

pub goes_on : (m : Mindset) (i : Input) → Grows agent_kind m (agent_cycle m i).mind 1
goes_on m i = record {
  made = refl;
  new_lines = shown m.level (m.cycles + 1) (spec.cycle (surroundings m) m.peers m.parts m.asks m.kept i).lines;
  lines = refl;
  me = refl;
  agents = refl;
}

nothing_behind : {A : Type 0} (xs : List A) → xs ++ [] ≡ xs
nothing_behind [] = refl
nothing_behind (x ∷ xs) = ap (λ ys. x ∷ ys) (nothing_behind xs)

pub is_told : (m : Mindset) (f : Feedback) → Grows agent_kind m (told m f) 0
is_told m f = record { made = omega arith; new_lines = []; lines = sym (nothing_behind m.text); me = refl; agents = refl }

-- ---- a quiet cycle

-- these parts are left, and there is nothing to do
pub record Stays (p : Circumstance) (r : spec.Ran) : Type 0 where
  pub parts : r.parts ≡ p
  pub events : p.agenda.events ≡ []
  pub running : p.agenda.running ≡ []

module _ (k : Surroundings) (peers : Peers) where
  int_stays : (p : Circumstance) (s : Sofar) (stacks : List (List Means))
      → is_quiet (spec.and_then s (sel_int_on p stacks) (spec.after_sel_int k peers)).thought ≡ true
      → ((spec.and_then s (sel_int_on p stacks) (spec.after_sel_int k peers)).parts ≡ p) × (stacks ≡ [])
  int_stays p s [] q = (refl, refl)
  int_stays p s (c ∷ stacks) q = let w = sel_int_on p (c ∷ stacks) in clash q (execs k peers w.parts (written s w) c)

  ev_stays : (p : Circumstance) (s : Sofar) (events : List Event) → events ≡ p.agenda.events
      → is_quiet (spec.and_then s (sel_ev_on p events) (spec.after_sel_ev k peers)).thought ≡ true
      → Stays p (spec.and_then s (sel_ev_on p events) (spec.after_sel_ev k peers))
  ev_stays p s [] e q =
      let w = sel_ev_on p [] in
      let h = int_stays p (written s w) p.agenda.running q in
      record { parts = h.0; events = sym e; running = h.1 }
  ev_stays p s (v ∷ events) e q =
      let w = sel_ev_on p (v ∷ events) in
      clash q (rel k peers w.parts (written s w) v (is_loud s.lines (line.Rule row.SelEv1) [] refl))

module _ (k : Surroundings) (peers : Peers) where
  mail_stays : (p : Circumstance) (s : Sofar) (m : Option Message) → is_quiet (spec.from_msg k peers p s m).thought ≡ true
      → Stays p (spec.from_msg k peers p s m)
  mail_stays p s None q = ev_stays (taught k p.number None) peers p (written s (by row.Msg0 p [] true)) p.agenda.events refl q
  mail_stays p s (Some m) q = clash q (reads k peers p s m)

  fed_stays : (p : Circumstance) (s : Sofar) (m : Option Message) (f : Feedback) (a : Option Acting)
      → is_quiet (spec.and_then s (feed_on k p f a) (λ q t _. spec.from_msg k peers q t m)).thought ≡ true
      → Stays p (spec.and_then s (feed_on k p f a) (λ q t _. spec.from_msg k peers q t m))
  fed_stays p s m f None q = mail_stays p (written s (feed_on k p f None)) m q
  fed_stays p s m feedback.Done (Some a) q =
      let w = feed_on k p feedback.Done (Some a) in clash q (mail k peers w.parts (written s w) m (is_loud s.lines (line.Rule row.FeedDone) w.lines refl))
  fed_stays p s m feedback.Failed (Some a) q =
      let w = feed_on k p feedback.Failed (Some a) in clash q (mail k peers w.parts (written s w) m (is_loud s.lines (line.Rule row.FeedFail) w.lines refl))

  pub feed_stays : (p : Circumstance) (s : Sofar) (kept : Option Feedback) (m : Option Message) → is_quiet (spec.from_feed k peers p s kept m).thought ≡ true
      → Stays p (spec.from_feed k peers p s kept m)
  feed_stays p s None m q = mail_stays p (written s (feed k p None)) m q
  feed_stays p s (Some f) m q = fed_stays p s m f p.agenda.acting q

  -- what was perceived changes nothing
  pub percept_stays : (asks : ℕ) (p : Circumstance) (kept : Option Feedback) (m : Option Message) (beliefs : List (LiteralOf Term)) (events : List Trigger)
      → is_quiet (spec.and_then (spec.nothing_yet asks) (percept_on p (record { beliefs = beliefs; events = events }))
      (λ q t _. spec.from_feed k peers q t kept m)).thought ≡ true
      → (events ≡ []) × Stays (believing p beliefs [])
      (spec.and_then (spec.nothing_yet asks) (percept_on p (record { beliefs = beliefs; events = events })) (λ q t _. spec.from_feed k peers q t kept m))
  percept_stays asks p kept m beliefs [] q =
      let w = percept_on p (record { beliefs = beliefs; events = [] }) in (refl, feed_stays w.parts (written (spec.nothing_yet asks) w) kept m q)
  percept_stays asks p kept m beliefs (e ∷ events) q =
      let w = percept_on p (record { beliefs = beliefs; events = e ∷ events }) in
      clash q (feeds k peers w.parts (written (spec.nothing_yet asks) w) kept m (is_loud [] (line.Rule row.Percept1) [] refl))

  -- an agent that has nothing to do is quiet
  int_quiet : (p : Circumstance) (s : Sofar) (stacks : List (List Means)) → stacks ≡ [] → spec.quiet_lines (s.lines ++ line.Rule row.SelInt2 ∷ []) ≡ true
      → is_quiet (spec.and_then s (sel_int_on p stacks) (spec.after_sel_int k peers)).thought ≡ true
  int_quiet p s [] e h = h
  int_quiet p s (c ∷ stacks) e h = cc

  ev_quiet : (p : Circumstance) (s : Sofar) (events : List Event) → events ≡ [] → p.agenda.running ≡ []
      → spec.quiet_lines ((s.lines ++ line.Rule row.SelEv2 ∷ []) ++ line.Rule row.SelInt2 ∷ []) ≡ true
      → is_quiet (spec.and_then s (sel_ev_on p events) (spec.after_sel_ev k peers)).thought ≡ true
  ev_quiet p s [] e r h = int_quiet p (written s (sel_ev_on p [])) p.agenda.running r h
  ev_quiet p s (v ∷ events) e r h = cc

module _ (k : Surroundings) (peers : Peers) where
  mail_quiet : (p : Circumstance) (s : Sofar) (m : Option Message) → m ≡ None → p.agenda.events ≡ [] → p.agenda.running ≡ []
      → spec.quiet_lines (((s.lines ++ line.Rule row.Msg0 ∷ []) ++ line.Rule row.SelEv2 ∷ []) ++ line.Rule row.SelInt2 ∷ []) ≡ true
      → is_quiet (spec.from_msg k peers p s m).thought ≡ true
  mail_quiet p s None none e r h = ev_quiet (taught k p.number None) peers p (written s (by row.Msg0 p [] true)) p.agenda.events e r h
  mail_quiet p s (Some m) none e r h = cc

  pub percept_quiet : (asks : ℕ) (p : Circumstance) (m : Option Message) (beliefs : List (LiteralOf Term)) (events : List Trigger) → m ≡ None → events ≡ []
      → (p.agenda.events ++ []) ≡ [] → p.agenda.running ≡ []
      → is_quiet (spec.and_then (spec.nothing_yet asks) (percept_on p (record { beliefs = beliefs; events = events }))
      (λ q t _. spec.from_feed k peers q t None m)).thought ≡ true
  percept_quiet asks p m beliefs [] none e h r =
      let w = percept_on p (record { beliefs = beliefs; events = [] }) in
      mail_quiet w.parts (written (written (spec.nothing_yet asks) w) (feed k w.parts None)) m none h r refl
  percept_quiet asks p m beliefs (v ∷ events) none e h r = cc

-- whatever plans are known then
module _ (k next : Surroundings) (peers : Peers) where
  pub still_again : (p : Circumstance) (asks : ℕ) (kept : Option Feedback) (i j : Input) → is_quiet (spec.cycle k peers p asks kept i).thought ≡ true
      → j.percepts ≡ i.percepts → j.message ≡ None
      → is_quiet (spec.cycle next peers (spec.cycle k peers p asks kept i).parts (spec.cycle k peers p asks kept i).asks None j).thought ≡ true
  still_again p asks kept i j q same none_sent =
      let c = updated i.percepts p.beliefs in
      let found = percept_stays k peers asks p kept i.message c.beliefs c.events q in
      let stays = found.1 in
      let r = (spec.cycle k peers p asks kept i).parts in
      let beliefs : r.beliefs ≡ p.beliefs = ap (λ x. x.beliefs) stays.parts ∙ updated_quiet i.percepts p.beliefs found.0 in
      let d = updated j.percepts r.beliefs in
      let none : d.events ≡ [] = ap (λ l. (updated l r.beliefs).events) same ∙ (ap (λ bs. (updated i.percepts bs).events) beliefs ∙ found.0) in
      let events : r.agenda.events ≡ [] = ap (λ x. x.agenda.events) stays.parts ∙ stays.events in
      let running : r.agenda.running ≡ [] = ap (λ x. x.agenda.running) stays.parts ∙ stays.running in
      percept_quiet next peers (spec.cycle k peers p asks kept i).asks r j.message d.beliefs d.events none_sent none (ap (λ es. es ++ []) events) running

pub quiet_again : (m : Mindset) (i j : Input) → is_quiet (agent_cycle m i).thought ≡ true → j.percepts ≡ i.percepts → j.message ≡ None
    → is_quiet (agent_cycle (agent_cycle m i).mind j).thought ≡ true
quiet_again m i j q same none =
    still_again (surroundings m) (surroundings (agent_cycle m i).mind) m.peers m.parts m.asks m.kept i j q same none
