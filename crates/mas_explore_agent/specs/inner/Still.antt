-- A quiet cycle leaves the parts of an agent as they were, and the number of its next ask, and its rows are those of a quiet one.
use Rattle.std.specs.Prelude.{ℕ, ◌≡◌, true, refl, List, [], ◌∷◌, Option, None, Some}
use Rattle.std.proofs.Common.{ap, ◌∙◌, append-nil}
use Rattle.asl_term.specs.declared.syntax.LiteralOf.{LiteralOf}
use Rattle.asl_term.specs.declared.syntax.Term.{Term}
use Rattle.asl_term.specs.declared.syntax.Trigger.{Trigger}
use Rattle.asl_beliefs.specs.Changes.{updated}
use Rattle.asl_intend.specs.declared.entry.Means.{Means}
use Rattle.asl_intend.specs.declared.agenda.Event.{Event}
use Rattle.asl_intend.specs.declared.agenda.Acting.{Acting}
use Rattle.asl_exec_circumstance.specs.declared.rows.Row.TheVariants as row
use Rattle.asl_exec_circumstance.specs.declared.peers.Peers.{Peers}
use Rattle.asl_exec_circumstance.specs.Circumstance.{Surroundings, Circumstance, believing}
use Rattle.mas_mind.specs.declared.mind.Feedback.{Feedback}
use Rattle.mas_mind.specs.declared.mind.Feedback.TheVariants as feedback
use Rattle.mas_mind.specs.declared.mind.Input.{Input}
use Rattle.mas_mind.specs.declared.mind.Message.{Message}
use Rattle.mas_mind.specs.Minds.{is_quiet}
use Rattle.asl_cycle.specs.declared.rows.TraceLine.TheVariants as line
use Rattle.asl_cycle.specs.declared.rows.Sofar.{Sofar}
use Rattle.asl_cycle.specs.Steps.{Stepped, by, written, percept, percept_on, feed, feed_on, sel_ev_on, sel_int_on, taught}
use Rattle.asl_cycle.specs.Cycle as spec
use Rattle.asl_cycle.specs.inner.Laws.{clash}
use Rattle.asl_cycle.specs.inner.Loud.{is_loud, execs, rel, reads, mail, feeds}
use Rattle.asl_cycle.specs.inner.Still.{updated_quiet}

-- ---- feedback

-- what was told, where a stack waits for it
abbrev pub heard : Option Acting → Option Feedback → Option Feedback
heard None kept = None
heard (Some a) kept = kept

pub heard_none : (a : Option Acting) → heard a None ≡ None
heard_none None = refl
heard_none (Some a) = refl

-- nothing else counts
heard_feed : (k : Surroundings) (p : Circumstance) (a : Option Acting) (kept : Option Feedback) → a ≡ p.agenda.acting → feed k p (heard a kept) ≡ feed k p kept
heard_feed k p None None e = refl
heard_feed k p None (Some f) e = ap (feed_on k p f) e
heard_feed k p (Some a) kept e = refl

pub heard_cycle : (k : Surroundings) (peers : Peers) (p : Circumstance) (asks : ℕ) (kept : Option Feedback) (i : Input)
    → spec.cycle k peers p asks (heard p.agenda.acting kept) i ≡ spec.cycle k peers p asks kept i
heard_cycle k peers p asks kept i =
    let w = percept p i.percepts in
    ap (λ (x : Stepped (Unit {0})). spec.and_then (written (spec.nothing_yet asks) w) x (λ q t _. spec.from_msg k peers q t i.message))
    (heard_feed k w.parts p.agenda.acting kept refl)

-- ---- a quiet cycle

-- a cycle leaves these parts and this number, and has the rows of a quiet one
pub record IsStill (p : Circumstance) (asks : ℕ) (r : spec.Ran) : Type 0 where
  pub parts : r.parts ≡ p
  pub number : r.asks ≡ asks
  pub lines : spec.quiet_lines r.lines ≡ true

module _ (k : Surroundings) (peers : Peers) where
  int_still : (p : Circumstance) (s : Sofar) (stacks : List (List Means))
      → is_quiet (spec.and_then s (sel_int_on p stacks) (spec.after_sel_int k peers)).thought ≡ true
      → IsStill p s.asks (spec.and_then s (sel_int_on p stacks) (spec.after_sel_int k peers))
  int_still p s [] q = record { parts = refl; number = refl; lines = q }
  int_still p s (c ∷ stacks) q = let w = sel_int_on p (c ∷ stacks) in clash q (execs k peers w.parts (written s w) c)

  ev_still : (p : Circumstance) (s : Sofar) (events : List Event)
      → is_quiet (spec.and_then s (sel_ev_on p events) (spec.after_sel_ev k peers)).thought ≡ true
      → IsStill p s.asks (spec.and_then s (sel_ev_on p events) (spec.after_sel_ev k peers))
  ev_still p s [] q = int_still p (written s (sel_ev_on p [])) p.agenda.running q
  ev_still p s (v ∷ events) q =
      let w = sel_ev_on p (v ∷ events) in
      clash q (rel k peers w.parts (written s w) v (is_loud s.lines (line.Rule row.SelEv1) [] refl))

module _ (k : Surroundings) (peers : Peers) where
  mail_still : (p : Circumstance) (s : Sofar) (m : Option Message) → is_quiet (spec.from_msg k peers p s m).thought ≡ true
      → IsStill p s.asks (spec.from_msg k peers p s m)
  mail_still p s None q = ev_still (taught k p.number None) peers p (written s (by row.Msg0 p [] true)) p.agenda.events q
  mail_still p s (Some m) q = clash q (reads k peers p s m)

  -- what was told counts for nothing
  fed_still : (p : Circumstance) (s : Sofar) (m : Option Message) (f : Feedback) (a : Option Acting)
      → is_quiet (spec.and_then s (feed_on k p f a) (λ q t _. spec.from_msg k peers q t m)).thought ≡ true
      → IsStill p s.asks (spec.and_then s (feed_on k p f a) (λ q t _. spec.from_msg k peers q t m)) × (heard a (Some f) ≡ None)
  fed_still p s m f None q = (mail_still p (written s (feed_on k p f None)) m q, refl)
  fed_still p s m feedback.Done (Some a) q =
      let w = feed_on k p feedback.Done (Some a) in clash q (mail k peers w.parts (written s w) m (is_loud s.lines (line.Rule row.FeedDone) w.lines refl))
  fed_still p s m feedback.Failed (Some a) q =
      let w = feed_on k p feedback.Failed (Some a) in clash q (mail k peers w.parts (written s w) m (is_loud s.lines (line.Rule row.FeedFail) w.lines refl))

  feed_still : (p : Circumstance) (s : Sofar) (kept : Option Feedback) (m : Option Message) → is_quiet (spec.from_feed k peers p s kept m).thought ≡ true
      → IsStill p s.asks (spec.from_feed k peers p s kept m) × (heard p.agenda.acting kept ≡ None)
  feed_still p s None m q = (mail_still p (written s (feed k p None)) m q, heard_none p.agenda.acting)
  feed_still p s (Some f) m q = fed_still p s m f p.agenda.acting q

  -- what was perceived is nothing new
  percept_still : (p : Circumstance) (asks : ℕ) (kept : Option Feedback) (m : Option Message) (beliefs : List (LiteralOf Term)) (events : List Trigger)
      → is_quiet (spec.and_then (spec.nothing_yet asks) (percept_on p (record { beliefs = beliefs; events = events }))
      (λ q t _. spec.from_feed k peers q t kept m)).thought ≡ true
      → (events ≡ []) × (IsStill (believing p beliefs []) asks
      (spec.and_then (spec.nothing_yet asks) (percept_on p (record { beliefs = beliefs; events = events })) (λ q t _. spec.from_feed k peers q t kept m))
      × (heard p.agenda.acting kept ≡ None))
  percept_still p asks kept m beliefs [] q =
      let w = percept_on p (record { beliefs = beliefs; events = [] }) in (refl, feed_still w.parts (written (spec.nothing_yet asks) w) kept m q)
  percept_still p asks kept m beliefs (e ∷ events) q =
      let w = percept_on p (record { beliefs = beliefs; events = e ∷ events }) in
      clash q (feeds k peers w.parts (written (spec.nothing_yet asks) w) kept m (is_loud [] (line.Rule row.Percept1) [] refl))

-- the beliefs of before, and no events more
nothing_new : (p : Circumstance) (beliefs : List (LiteralOf Term)) → beliefs ≡ p.beliefs → believing p beliefs [] ≡ p
nothing_new p beliefs e = λ j. record { beliefs = e j; agenda = record p.agenda { events = append-nil p.agenda.events j }; number = p.number }

-- a quiet cycle, and what was told before it
pub record IsIdle (p : Circumstance) (asks : ℕ) (kept : Option Feedback) (r : spec.Ran) : Type 0 where
  pub still : IsStill p asks r
  pub unheard : heard p.agenda.acting kept ≡ None

pub is_idle : (k : Surroundings) (peers : Peers) (p : Circumstance) (asks : ℕ) (kept : Option Feedback) (i : Input)
    → is_quiet (spec.cycle k peers p asks kept i).thought ≡ true → IsIdle p asks kept (spec.cycle k peers p asks kept i)
is_idle k peers p asks kept i q =
    let c = updated i.percepts p.beliefs in
    let found = percept_still k peers p asks kept i.message c.beliefs c.events q in
    let still = found.1.0 in
    let none = found.0 in
    record {
      still = record {
        parts = still.parts ∙ nothing_new p c.beliefs (updated_quiet i.percepts p.beliefs none);
        number = still.number;
        lines = still.lines;
      };
      unheard = found.1.1;
    }
