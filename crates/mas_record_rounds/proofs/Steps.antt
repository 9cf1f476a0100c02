-- What each call makes of a sharer.
use Rattle.std.proofs.Common.{◌≡◌, ℕ, ◌+◌, Bool, true, false, not, is_some, Result, Ok, Err, IfOk, IfErr}
use Rattle.std.proofs.Common.{Option, None, Some, length, sym, refl, ap, ◌∙◌, subst, append-nil, arith}
use Rattle.mas_mind.specs.declared.mind.End.{End}
use Rattle.mas_mind.specs.declared.mind.Input.{Input}
use Rattle.mas_mind.specs.declared.mind.Outs.{Outs}
use Rattle.mas_mind.specs.declared.mind.Feedback.{Feedback}
use Rattle.mas_mind.specs.declared.mind.Thought.{Thought}
use Rattle.mas_mind.specs.declared.mind.Thought.TheVariants.{Outs as Acts, Spent}
use Rattle.mas_mind.specs.Minds.{Kind, Grows, AreLawful, asks_feedback}
use Rattle.mas_board.specs.declared.seats.Phase.{Phase}
use Rattle.mas_board.specs.declared.seats.Sensed.TheVariants as answer
use Rattle.mas_board.specs.Boards.{State, Noted, seat_at, is_gone}
use Rattle.mas_core.specs.Fits.{ThoughtFits}
use Rattle.mas_board_turns.specs.declared.turn.Turn.{Turn}
use Rattle.mas_board_turns.specs.declared.turn.Turn.TheVariants as turn
use Rattle.mas_board_turns.specs.Turns as turns
use Rattle.mas_board_turns.specs.Turns.{phase_after, cycle_of, cycles_in}
use Rattle.mas_board_turns.specs.Follows.{Thinking, resting, thinking, told}
use Rattle.mas_board_turns.specs.Cycles.{cycled, Belongs, Went}
use Rattle.mas_board_turns.specs.Views.{Opening}
use Rattle.mas_board_turns.proofs.Cycles.{phase_snoc, cycles_snoc, acted_some, told_grows, told_awaits, starts, went_none, went_one, went_more, belongs_on, is_asked, has_thought}
use Rattle.mas_record.specs.declared.deck.DeckFault.{DeckFault}
use Rattle.mas_record.specs.declared.deck.DeckFault.TheVariants as fault
use Rattle.mas_record.specs.declared.recorder.Recorder.{Recorder}
use Rattle.mas_record.specs.declared.ticket.Ticket.{Ticket}
use Rattle.mas_record.specs.Entries.{Entered}
use Rattle.mas_record.specs.Tickets.{IsTicketOf, turns_of, first_of, phase_of, agents_of, Exchanged, HasFault, SenseRecorded}
use Rattle.mas_record.specs.Tickets.{SenseRefused, IsGiven, EmitRecorded, LeaveRecorded}
use Rattle.mas_record_rounds.specs.declared.sharer.Sharer.{Sharer}
use Rattle.mas_record_rounds.specs.Sharers.{cycles_of, standing, thinking_of, Shares, SharerRests, SharerIsAsked, SharerHasThought, Stays, SharerWent, GoesOn, IsRefused}

-- ---- turns

module _ {A D : Type 0} (s t : Ticket A D) (after : Noted) where
  abbrev began : Ticket A D → Phase
  began u = (seat_at (first_of u).board.state u.number).phase

  pub phase_on : (x : Turn) → Exchanged s t (Some x) after → phase_of t ≡ turns.phase_of x
  phase_on x e = ap (phase_after (began t)) e.turns ∙ phase_snoc (began t) (turns_of s) x

  still : Exchanged s t None after → turns_of t ≡ turns_of s
  still e = e.turns ∙ append-nil (turns_of s)

  pub phase_still : Exchanged s t None after → phase_of t ≡ phase_of s
  phase_still e =
      let ts = still e in
      λ i. phase_after (seat_at (e.first i).board.state (e.number i)).phase (ts i)

  begun_same : {made : Option Turn} → Exchanged s t made after
      → (seat_at (first_of t).board.state t.number).cycle ≡ (seat_at (first_of s).board.state s.number).cycle
  begun_same e = λ i. (seat_at (e.first i).board.state (e.number i)).cycle

  pub cycles_on : (x : Turn) → Exchanged s t (Some x) after → cycles_of t ≡ cycles_of s + cycle_of x
  cycles_on x e =
      let b = begun_same e in
      let c = ap cycles_in e.turns in
      let n = cycles_snoc (turns_of s) x in
      omega arith

  pub cycles_still : Exchanged s t None after → cycles_of t ≡ cycles_of s
  cycles_still e =
      let b = begun_same e in
      let c = ap cycles_in (still e) in
      omega arith

-- ---- answers

pub ok_map : {T E : Type 0} (r : Result T E) (P Q : T → Type 0) → ((x : T) → P x → Q x) → IfOk r P → IfOk r Q
ok_map (Ok x) P Q f h = f x h
ok_map (Err e) P Q f h = tt

pub err_map : {T E : Type 0} (r : Result T E) (P Q : E → Type 0) → ((x : E) → P x → Q x) → IfErr r P → IfErr r Q
err_map (Ok x) P Q f h = tt
err_map (Err e) P Q f h = f e h

-- ---- refusals

fault_torn : (made : Option Turn) (e : Entered) (f : DeckFault) → HasFault f made e → f ≡ fault.Disk → is_some e.torn_after ≡ true
fault_torn None e f h d = cc (h.0, d)
fault_torn (Some x) e f h d = ap is_some h.2.torn_now

module _ {V A D : Type 0} (k : Kind V) (r : Recorder A D) where
  abbrev having : Sharer V A D → Ticket A D → V → Sharer V A D
  having s t m = record { number = s.number; ticket = t; mind = m; thought = s.thought }

  stays_by : (s : Sharer V A D) (t : Ticket A D) (m : V) → IsTicketOf r t → t.number ≡ s.ticket.number → first_of t ≡ first_of s.ticket
      → Stays r s (having s t m)
  stays_by s t m i n f = record { ticket = i; number = refl; agent = n; first = f }

  belongs_to : (s : Sharer V A D) (t : Ticket A D) (m : V) → Belongs k (standing s) → t.number ≡ s.ticket.number → first_of t ≡ first_of s.ticket
      → k.me m ≡ k.me s.mind → k.agents m ≡ k.agents s.mind → Belongs k (standing (having s t m))
  belongs_to s t m h n f me agents =
      belongs_on k (standing s) t.number (first_of t).board (phase_of t) (cycles_of t) m h n (ap (λ (o : Opening). o.board) f) me agents

  pub sense_refused : (s : Sharer V A D) (t : Ticket A D) (m : V) (f : DeckFault) → IsTicketOf r t → SenseRefused s.ticket t f → IsRefused r s (having s t m) f
  sense_refused s t m f i h = record {
    stays = stays_by s t m i h.exchanged.number h.exchanged.first;
    torn = λ d. h.exchanged.torn ∙ h.seen.on_exit ∙ fault_torn h.made h.entered f h.cause d;
  }

  -- the mind was starved in its cycle
  pub mind_refused : (s : Sharer V A D) (m : V) → IsTicketOf r s.ticket → IsRefused r s (having s s.ticket m) fault.Memory
  mind_refused s m i = record { stays = stays_by s s.ticket m i refl refl; torn = λ d. cc (d) }

  stays_more : (s m n : Sharer V A D) → Stays r s m → Stays r m n → Stays r s n
  stays_more s m n a b = record { ticket = b.ticket; number = b.number ∙ a.number; agent = b.agent ∙ a.agent; first = b.first ∙ a.first }

  pub refused_more : (s m n : Sharer V A D) (f : DeckFault) → Stays r s m → IsRefused r m n f → IsRefused r s n f
  refused_more s m n f a b = record { stays = stays_more s m n a b.stays; torn = b.torn }

  -- the way from s to m, and from there to n
  way_more : (start mid : Thinking V) (s m n : Sharer V A D) → Stays r s m → Went k start (turns_of s.ticket) (turns_of m.ticket) mid
      → SharerWent k r mid m n → SharerWent k r start s n
  way_more start mid s m n a b w = record {
    stays = stays_more s m n a w.stays;
    shares = w.shares;
    none = w.none;
    way = went_more k start mid (resting n.mind) (turns_of s.ticket) (turns_of m.ticket) (turns_of n.ticket) b w.way;
  }

  -- ---- no turn was made

  quiet_went : (s : Sharer V A D) (t : Ticket A D) (after : Noted) → Shares k r s → s.thought ≡ None → IsTicketOf r t → Exchanged s.ticket t None after
      → SharerWent k r (thinking_of s) s (having s t s.mind)
  quiet_went s t after h none i e = record {
    stays = stays_by s t s.mind i e.number e.first;
    shares = record {
      ticket = i;
      belongs = belongs_to s t s.mind h.belongs e.number e.first refl refl;
      made = h.made ∙ sym (cycles_still s.ticket t after e);
      thought =
          (let p = phase_still s.ticket t after e in
          let n : agents_of t ≡ agents_of s.ticket = ap (λ (o : Opening). length o.board.state.seats) e.first in
          subst (λ (x : ℕ × Phase). ThoughtFits k x.0 s.number x.1 s.mind s.thought) (λ j. (sym n j, sym p j)) h.thought);
    };
    none = none;
    way = went_none k (thinking_of s) (resting s.mind) (turns_of s.ticket) (turns_of t)
        (ap (λ (x : Option Thought). record { mind = s.mind; thought = x }) (sym none)) (still s.ticket t after e);
  }

  resting_of : (s : Sharer V A D) → s.thought ≡ None → thinking_of s ≡ resting s.mind
  resting_of s none = ap (λ (x : Option Thought). record { mind = s.mind; thought = x }) none

  rests_none : (s : Sharer V A D) → SharerRests k r s → s.thought ≡ None
  rests_none s h = (subst (λ (p : Phase). ThoughtFits k (agents_of s.ticket) s.number p s.mind s.thought) h.idle h.shares.thought).1

  rests_free : (s : Sharer V A D) → SharerRests k r s → k.awaits s.mind ≡ false
  rests_free s h = (subst (λ (p : Phase). ThoughtFits k (agents_of s.ticket) s.number p s.mind s.thought) h.idle h.shares.thought).0

  quiet_rests : (s : Sharer V A D) (t : Ticket A D) (after : Noted) → SharerRests k r s → IsTicketOf r t → Exchanged s.ticket t None after
      → GoesOn k r (resting s.mind) s (having s t s.mind) true
  quiet_rests s t after h i e =
      let none = rests_none s h in
      record {
        went = subst (λ (x : Thinking V). SharerWent k r x s (having s t s.mind)) (resting_of s none) (quiet_went s t after h.shares none i e);
        here_is = sym (ap (λ (p : Phase). not (is_gone p)) (phase_still s.ticket t after e ∙ h.idle));
      }

  -- ---- whether it has left

  -- ---- a Sense

  pub asked : (s : Sharer V A D) (t : Ticket A D) (input : Input) → SharerRests k r s → IsTicketOf r t → SenseRecorded s.ticket t (answer.Input input)
      → IsGiven s.ticket input
      → SharerIsAsked k r input (having s t s.mind)
  asked s t input h i e g =
      let x = e.exchanged in
      record {
        ticket = i;
        asked = is_asked k (standing s) t.number (first_of t).board (phase_of t) (cycles_of t) input h.shares.belongs x.number (ap (λ (o : Opening). o.board) x.first)
            (phase_on s.ticket t e.after (turn.Sensed input) x) (cycles_on s.ticket t e.after (turn.Sensed input) x) h.shares.made (rests_free s h) g.short g.input_for;
        none = rests_none s h;
      }

  pub answered : (s n : Sharer V A D) (t : Ticket A D) (input : Input) (here : Bool) → IsTicketOf r t → SenseRecorded s.ticket t (answer.Input input)
      → GoesOn k r (cycled k s.mind input) (having s t s.mind) n here → GoesOn k r (resting s.mind) s n here
  answered s n t input here i e g = record {
    went =
        way_more (resting s.mind) (cycled k s.mind input) s (having s t s.mind) n
        (stays_by s t s.mind i e.exchanged.number e.exchanged.first)
        (went_one k (resting s.mind) (cycled k s.mind input) (turns_of s.ticket) (turns_of t) (turn.Sensed input) refl e.exchanged.turns) g.went;
    here_is = g.here_is;
  }

  pub answer_refused : (s n : Sharer V A D) (t : Ticket A D) (input : Input) (f : DeckFault) → IsTicketOf r t → SenseRecorded s.ticket t (answer.Input input)
      → IsRefused r (having s t s.mind) n f → IsRefused r s n f
  answer_refused s n t input f i e g = refused_more s (having s t s.mind) n f (stays_by s t s.mind i e.exchanged.number e.exchanged.first) g

  pub left : (s : Sharer V A D) (t : Ticket A D) (end : End) → SharerRests k r s → IsTicketOf r t → SenseRecorded s.ticket t (answer.Left end)
      → GoesOn k r (resting s.mind) s (having s t s.mind) false
  left s t end h i e =
      let x = e.exchanged in
      let p = phase_on s.ticket t e.after (turn.Left end) x in
      let none = rests_none s h in
      record {
        went = record {
          stays = stays_by s t s.mind i x.number x.first;
          shares = record {
            ticket = i;
            belongs = belongs_to s t s.mind h.shares.belongs x.number x.first refl refl;
            made = (let c = cycles_on s.ticket t e.after (turn.Left end) x in let m = h.shares.made in omega arith);
            thought = subst (λ (q : Phase). ThoughtFits k (agents_of t) s.number q s.mind s.thought) (sym p) none;
          };
          none = none;
          way = went_one k (resting s.mind) (resting s.mind) (turns_of s.ticket) (turns_of t) (turn.Left end) refl x.turns;
        };
        here_is = sym (ap (λ (q : Phase). not (is_gone q)) p);
      }

  pub waits : (s : Sharer V A D) (t : Ticket A D) (cycle least : ℕ) → SharerRests k r s → IsTicketOf r t → SenseRecorded s.ticket t (answer.Ahead cycle least)
      → GoesOn k r (resting s.mind) s (having s t s.mind) true
  waits s t cycle least h i e = quiet_rests s t e.after h i e.exchanged

  pub passes : (s : Sharer V A D) (t : Ticket A D) → SharerRests k r s → IsTicketOf r t → SenseRecorded s.ticket t answer.Halted
      → GoesOn k r (resting s.mind) s (having s t s.mind) true
  passes s t h i e = quiet_rests s t e.after h i e.exchanged

  -- ---- a thought

  pub thought_has : ((m : V) (i : Input) → k.awaits (k.cycle m i).mind ≡ asks_feedback (k.cycle m i).thought)
      → ((m : V) (i : Input) → Grows k m (k.cycle m i).mind 1)
      → (s : Sharer V A D) (input : Input) (mind : V) (thought : Thought) → SharerIsAsked k r input s → k.cycle s.mind input ≡ record
      { mind = mind; thought = thought }
      → AreLawful (k.me s.mind) (k.agents s.mind) thought → SharerHasThought k r thought (having s s.ticket mind)
  thought_has law grow s input mind thought a e l =
      record { ticket = a.ticket; thinks = has_thought k law grow (standing s) input mind thought a.asked e l; none = a.none }

  pub thought_goes : (s n : Sharer V A D) (input : Input) (mind : V) (thought : Thought) (here : Bool) → SharerIsAsked k r input s
      → k.cycle s.mind input ≡ record { mind = mind; thought = thought }
      → GoesOn k r (thinking mind thought) (having s s.ticket mind) n here → GoesOn k r (cycled k s.mind input) s n here
  thought_goes s n input mind thought here a e g =
      let w = g.went in
      record {
        went = record {
          stays = stays_more s (having s s.ticket mind) n (stays_by s s.ticket mind a.ticket refl refl) w.stays;
          shares = w.shares;
          none = w.none;
          way = subst (λ (x : Thinking V). Went k x (turns_of s.ticket) (turns_of n.ticket) (resting n.mind)) (starts k s.mind mind input thought e) w.way;
        };
        here_is = g.here_is;
      }

  pub thought_refused : (s n : Sharer V A D) (input : Input) (mind : V) (f : DeckFault) → SharerIsAsked k r input s → IsRefused r (having s s.ticket mind) n f
      → IsRefused r s n f
  thought_refused s n input mind f a g = refused_more s (having s s.ticket mind) n f (stays_by s s.ticket mind a.ticket refl refl) g

  -- ---- a Leave and an Emit

  leaves : (s : Sharer V A D) (t : Ticket A D) → SharerHasThought k r Spent s → IsTicketOf r t → LeaveRecorded s.ticket t
      → GoesOn k r (thinking s.mind Spent) s (having s t s.mind) false
  leaves s t h i e =
      let x = e.exchanged in
      let p = phase_on s.ticket t e.after turn.Gone x in
      record {
        went = record {
          stays = stays_by s t s.mind i x.number x.first;
          shares = record {
            ticket = i;
            belongs = belongs_to s t s.mind h.thinks.belongs x.number x.first refl refl;
            made = (let c = cycles_on s.ticket t e.after turn.Gone x in let m = h.thinks.made in omega arith);
            thought = subst (λ (q : Phase). ThoughtFits k (agents_of t) s.number q s.mind s.thought) (sym p) h.none;
          };
          none = h.none;
          way = went_one k (thinking s.mind Spent) (resting s.mind) (turns_of s.ticket) (turns_of t) turn.Gone refl x.turns;
        };
        here_is = sym (ap (λ (q : Phase). not (is_gone q)) p);
      }

  pub leaves_if : (s : Sharer V A D) (t : Ticket A D) (thought : Thought) → thought ≡ Spent → SharerHasThought k r thought s → IsTicketOf r t
      → LeaveRecorded s.ticket t → GoesOn k r (thinking s.mind thought) s (having s t s.mind) false
  leaves_if s t thought e h i l =
      subst (λ (x : Thought). GoesOn k r (thinking s.mind x) s (having s t s.mind) false) (sym e)
      (leaves s t (subst (λ (x : Thought). SharerHasThought k r x s) e h) i l)

  pub emitted : ((m : V) (f : Feedback) → k.awaits (k.took m f) ≡ false) → ((m : V) (f : Feedback) → Grows k m (k.took m f) 0)
      → (s : Sharer V A D) (t : Ticket A D) (mind : V)
      (outs : Outs) (f : Option Feedback) → SharerHasThought k r (Acts outs) s → IsTicketOf r t → EmitRecorded s.ticket t outs f → mind ≡ told k s.mind f
      → GoesOn k r (thinking s.mind (Acts outs)) s (having s t mind) true
  emitted law grow s t mind outs f h i e d =
      let x = e.exchanged in
      let p = phase_on s.ticket t e.after (turn.Emitted outs f) x in
      let grows = told_grows k grow s.mind f in
      let some = ap (λ (q : Option Feedback × State). is_some q.0) e.answered.state ∙ acted_some _ _ outs.action in
      subst (λ (y : V). GoesOn k r (thinking s.mind (Acts outs)) s (having s t y) true) (sym d)
      record {
        went = record {
          stays = stays_by s t (told k s.mind f) i x.number x.first;
          shares = record {
            ticket = i;
            belongs = belongs_to s t (told k s.mind f) h.thinks.belongs x.number x.first grows.me grows.agents;
            made = (let c = cycles_on s.ticket t e.after (turn.Emitted outs f) x in let m = h.thinks.made in let g = grows.made in omega arith);
            thought = subst (λ (q : Phase). ThoughtFits k (agents_of t) s.number q (told k s.mind f) s.thought) (sym p)
                (told_awaits k law s.mind f (h.thinks.awaits ∙ sym some), h.none);
          };
          none = h.none;
          way = went_one k (thinking s.mind (Acts outs)) (resting (told k s.mind f)) (turns_of s.ticket) (turns_of t) (turn.Emitted outs f) (refl, refl) x.turns;
        };
        here_is = sym (ap (λ (q : Phase). not (is_gone q)) p);
      }

  -- ---- the whole part

  pub goes_more : (s m n : Sharer V A D) (here first : Bool) → GoesOn k r (thinking_of s) s m first → GoesOn k r (resting m.mind) m n here
      → GoesOn k r (thinking_of s) s n here
  goes_more s m n here first a b = record {
    went = way_more (thinking_of s) (resting m.mind) s m n a.went.stays a.went.way b.went;
    here_is = b.here_is;
  }
