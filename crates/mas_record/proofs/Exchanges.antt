-- What the calls tell of an exchange, put together.
use Rattle.std.proofs.Common.{◌≡◌, ℕ, inl, inr, Bool, true, false, true≢false, Option, Some, None, is_some, Result, Ok, Err, IfOk, OnOk, IfErr}
use Rattle.std.proofs.Common.{OnErr, List, [], ◌∷◌, ◌++◌, cond, length, sym, ap, ◌∙◌, subst, append-nil, refl}
use Rattle.std.specs.Option.{option_to_list}
use Rattle.std.proofs.lemmas.Option.{same_Some}
use Rattle.asl_term.specs.declared.sequence.Starved.{Starved}
use Rattle.mas_board_lists.specs.Lists.{StartsWith, times}
use Rattle.mas_record_disk.specs.Disk.{DiskState}
use Rattle.mas_record_disk.specs.declared.disk.DiskFail.{DiskFail}
use Rattle.mas_record_journal.specs.declared.journal.Journal.{Journal}
use Rattle.mas_mind.specs.declared.mind.Outs.{Outs}
use Rattle.mas_mind.specs.declared.mind.Feedback.{Feedback}
use Rattle.mas_mind.specs.declared.mind.End.TheVariants.{Budget}
use Rattle.mas_mind.specs.Minds.{IsAgent}
use Rattle.mas_board.specs.declared.seats.Phase.{Phase}
use Rattle.mas_board.specs.declared.seats.Phase.TheVariants.{Idle, Busy}
use Rattle.mas_board.specs.declared.seats.Sensed.{Sensed}
use Rattle.mas_board.specs.declared.seats.Sensed.TheVariants as answer
use Rattle.mas_board.specs.Boards as board
use Rattle.mas_board.specs.Boards.{Noted, seat_at, is_gone}
use Rattle.mas_board.specs.Seating.{IsAt, HasSensed, SenseLeaves, HasEmitted, HasLeft}
use Rattle.mas_board_turns.specs.declared.turn.Turn.{Turn}
use Rattle.mas_board_turns.specs.declared.turn.Turn.TheVariants as turn
use Rattle.mas_board_turns.specs.declared.view.SideView.{SideView}
use Rattle.mas_board_turns.specs.Views.{Turns, Opening, noted}
use Rattle.mas_board_turns.specs.Steps.{of_first, Sits, Made, Stands, took, gave}
use Rattle.mas_record.specs.declared.deck.Deck.{Deck}
use Rattle.mas_record.specs.declared.deck.DeckFault.{DeckFault}
use Rattle.mas_record.specs.declared.deck.DeckFault.TheVariants as fault
use Rattle.mas_record.specs.declared.side.DeckView.{DeckView}
use Rattle.mas_record.specs.declared.ticket.Ticket.{Ticket}
use Rattle.mas_record.specs.Faults.{fault_of}
use Rattle.mas_record.specs.Rule.{IsJournalled, IsKept, shown}
use Rattle.mas_record.specs.Views as view
use Rattle.mas_record.specs.Standing.{KeepsStill, DeckMayGive}
use Rattle.mas_record.specs.Entries.{Appended, NotedIn, entered, IsWritten, IsTornNow, IsAsItWas, IsSeen}
use Rattle.mas_board_turns.specs.Answers.{sensed, made_by_sense, made_by_emit}
use Rattle.mas_record.specs.Tickets.{answered, HasEntry, HasFault, knows, known, turns_of, first_of, met_by, phase_of, Met, IsGivenBack, Exchanged}
use Rattle.mas_record.specs.Tickets.{SenseRecorded, SenseRefused, EmitRecorded, LeaveRecorded, TurnRefused}
use Rattle.mas_record.proofs.RecorderRule.{kept_noted, shown_open}
use Rattle.mas_record.proofs.Standing.{noted_still}

-- ---- what a taking tells

first_noted : (a : ℕ) (made : Option Turn) (ts : List Turn) (es : Turns) → es ≡ (a, ts) ∷ [] → of_first (noted made es) ≡ of_first es ++ option_to_list made
first_noted a None ts es e = sym (append-nil (of_first es))
first_noted a (Some t) ts es e = ap (λ (l : Turns). of_first (noted (Some t) l)) e ∙ ap (λ (l : List Turn). l ++ t ∷ []) (sym (ap of_first e))

-- ---- an exchange

shown_made : {A D : Type 0} (made : Option Turn) (a : ℕ) (x z : Deck A D) → Made made x.board a z.board → Made made (shown x) a (shown z)
shown_made None a x z h = h
shown_made (Some turn) a x z h = h

module _ {A D : Type 0} (state : D → DiskState) (old mid : Ticket A D) (x : Deck A D) (m : Met state old mid x) where
  pub at_phase : (p : Phase) → phase_of old ≡ p → IsAt x.board.state mid.number p
  at_phase p e = subst (λ (n : ℕ × Phase). IsAt x.board.state n.0 n.1) (λ i. (sym m.number i, e i)) m.stands.at

  pub is_agent : IsAgent (length x.board.state.seats) mid.number
  is_agent = (at_phase (phase_of old) refl).agent

  pub gone_if : (phase : Phase) (left : Bool) → left ≡ is_gone phase → phase ≡ (seat_at x.board.state mid.number).phase → left ≡ is_gone (phase_of old)
  gone_if phase left e d = e ∙ ap is_gone (d ∙ (at_phase (phase_of old) refl).phase_is)

  on_side : known mid ≡ took (known old) (shown x)
  on_side = ap (λ (v : DeckView D). v.side) m.taken

  same_met : (met : Journal D) → (knows mid).met ≡ Some met → x.journal ≡ met
  same_met met e = same_Some x.journal met (sym (ap (λ (v : DeckView D). v.met) m.taken) ∙ e)

  -- board and journal may be given back, after this was made of the board and noted in the journal
  pub may_give : (z : Deck A D) (made : Option Turn) (written : Result (Unit {0}) DiskFail) → Made made x.board mid.number z.board
      → z.board.halted ≡ x.board.halted → x.journal.torn ≡ None →
      NotedIn state made mid.number x.journal z.journal written → DeckMayGive state made mid.number (knows mid) z
  may_give z made written h halted open_now n = record {
    gives = record {
      makes = subst (λ (b : Noted). Made made b mid.number (shown z)) (sym (ap (λ (v : SideView). v.met) on_side)) (shown_made made mid.number x z h);
      kept = subst (λ (o : Opening). IsKept state o z) (sym (ap (λ (v : SideView). v.first) on_side))
          (kept_noted state (first_of old) x z mid.number made written m.kept open_now h halted n);
    };
    keeps = λ met e. subst (λ (j : Journal D). KeepsStill state j z.journal) (same_met met e)
        (noted_still state made mid.number x.journal z.journal written n);
  }

  -- or as they are
  pub may_return : DeckMayGive state None mid.number (knows mid) x
  may_return = record {
    gives = record {
      makes = subst (λ (b : Noted). Made None b mid.number (shown x)) (sym (ap (λ (v : SideView). v.met) on_side)) (refl, refl);
      kept = subst (λ (o : Opening). IsKept state o x) (sym (ap (λ (v : SideView). v.first) on_side)) m.kept;
    };
    keeps = λ met e. subst (λ (j : Journal D). KeepsStill state j x.journal) (same_met met e) (λ back h. h);
  }

  module _ (new : Ticket A D) (z : Deck A D) (made : Option Turn) (n : new.number ≡ mid.number) (g : knows new ≡ view.gave state made (knows mid) z) where
    abbrev whole : knows new ≡ view.gave state made (view.took state (knows old) x) z
    whole = g ∙ ap (λ (v : DeckView D). view.gave state made v z) m.taken

    abbrev back : known new ≡ gave made (took (known old) (shown x)) (shown z)
    back = ap (λ (v : DeckView D). v.side) whole

    last_is : entered state x.journal z.journal ≡ view.entered_by (knows new)
    last_is = sym (ap (λ (v : DeckView D). view.entered_by v) whole)

    met_again : met_by new ≡ shown x
    met_again = ap (λ (v : SideView). v.met) back

    is_seen : IsSeen (entered state x.journal z.journal) (met_by new) (shown z)
    is_seen = record { on_entry = ap (λ (b : Noted). b.halted) met_again; on_exit = refl }

    given_back : IsJournalled z.board.schedule z.journal.turns z.journal.torn → IsGivenBack old new
    given_back t = record {
      journal = z.journal;
      noted = ap (λ (v : DeckView D). v.left) whole;
      tells = subst (λ (l : List ℕ). IsJournalled l z.journal.turns z.journal.torn) (sym (ap (λ (v : SideView). v.seen) back)) t;
    }

    exchanged : Sits old.number false (known old) → IsJournalled z.board.schedule z.journal.turns z.journal.torn → Made made x.board old.number z.board
        → Exchanged old new made (shown z)
    exchanged s t h =
        let e = sym met_again in
        record {
          number = n ∙ m.number;
          first = ap (λ (v : SideView). v.first) back;
          goes_on = subst (λ (b : Noted). StartsWith b.schedule (known old).seen) e m.goes_on;
          makes = subst (λ (b : Noted). Made made b old.number (shown z)) e (shown_made made old.number x z h);
          turns = ap (λ (v : SideView). of_first v.turns) back ∙ first_noted old.number made (turns_of old) (known old).turns s.turns;
          seen = ap (λ (v : SideView). v.seen) back;
          torn = ap (λ (v : SideView). v.halted) back;
          stands = subst (λ (b : Noted). Stands (first_of old).board.state b.state (old.number, turns_of old)) e m.stands;
          latest = subst (λ (b : Noted). times old.number b.schedule ≡ times old.number (known old).seen) e m.latest;
          recorded = given_back t;
        }

-- ---- what each call of the board makes of it

sense_made : (a : ℕ) (s : Sensed) (x y : Noted) → IsAt x.state a Idle → HasSensed x y a s → SenseLeaves x y a s → Made (sensed s) x a y
sense_made a (answer.Input i) x y at h l = ((at, h.state ∙ ap (λ b. cond b (answer.Halted, x.state) (board.sense x.state a)) l.0), h.schedule)
sense_made a (answer.Left e) x y at h l = ((at, h.state ∙ ap (λ b. cond b (answer.Halted, x.state) (board.sense x.state a)) l.0), h.schedule)
sense_made a (answer.Ahead c n) x y at h l = (ap (λ (b : Noted). b.state) l.1, ap (λ (b : Noted). b.schedule) l.1)
sense_made a answer.Halted x y at h l = (ap (λ (b : Noted). b.state) l.1, ap (λ (b : Noted). b.schedule) l.1)

sense_makes : (a : ℕ) (r : Result Sensed Starved) (x y : Noted) → IsAt x.state a Idle → IfOk r (HasSensed x y a) → IfOk r (SenseLeaves x y a)
    → OnErr r (y ≡ x) → Made (made_by_sense r) x a y
sense_makes a (Ok s) x y at h l e = sense_made a s x y at h l
sense_makes a (Err r) x y at h l e = (ap (λ (b : Noted). b.state) e, ap (λ (b : Noted). b.schedule) e)

sense_halted : (a : ℕ) (r : Result Sensed Starved) (x y : Noted) → IfOk r (HasSensed x y a) → OnErr r (y ≡ x) → y.halted ≡ x.halted
sense_halted a (Ok s) x y h e = h.halted
sense_halted a (Err r) x y h e = ap (λ (b : Noted). b.halted) e

emit_makes : (a : ℕ) (outs : Outs) (r : Result (Option Feedback) Starved) (x y : Noted) → IsAt x.state a Busy → IfOk r (HasEmitted x y a outs)
    → OnErr r (y ≡ x) → Made (made_by_emit outs r) x a y
emit_makes a outs (Ok f) x y at h e = ((at, h.state), h.schedule)
emit_makes a outs (Err r) x y at h e = (ap (λ (b : Noted). b.state) e, ap (λ (b : Noted). b.schedule) e)

emit_halted : (a : ℕ) (outs : Outs) (r : Result (Option Feedback) Starved) (x y : Noted) → IfOk r (HasEmitted x y a outs) → OnErr r (y ≡ x)
    → y.halted ≡ x.halted
emit_halted a outs (Ok f) x y h e = h.halted
emit_halted a outs (Err r) x y h e = ap (λ (b : Noted). b.halted) e

-- ---- what becomes of the journal

-- the turn was appended
written_in : {D : Type 0} (state : D → DiskState) (a : ℕ) (i j : Journal D) → i.torn ≡ None → Appended state a i j (Ok tt) → IsWritten (entered state i j)
written_in state a i j open_now n = record { open_before = open_now; open_after = n.ok.open_now }

torn_in : {D : Type 0} (state : D → DiskState) (a : ℕ) (i j : Journal D) (f : DiskFail) → i.torn ≡ None → Appended state a i j (Err f)
    → IsTornNow (entered state i j) f
torn_in state a i j f open_now n = record { open_before = open_now; torn_now = n.refused.torn_by; cause = λ e. n.cause (cc (e)) }

-- it did not take it
fault_in : {D : Type 0} (state : D → DiskState) (a : ℕ) (made : Option Turn) (i j : Journal D) (f : DiskFail) → i.torn ≡ None
    → NotedIn state made a i j (Err f) → HasFault (fault_of f) made (entered state i j)
fault_in state a None i j f open_now n = cc (n.1)
fault_in state a (Some t) i j f open_now n = (f, refl, torn_in state a i j f open_now n)

as_it_was : {D : Type 0} (state : D → DiskState) (i j : Journal D) → j ≡ i → IsAsItWas (entered state i j)
as_it_was {D} state i j e = record { torn = ap (λ (k : Journal D). k.torn) e; faults = ap (λ (k : Journal D). (state k.disk).faults) e }

still_open : {D : Type 0} (state : D → DiskState) (a : ℕ) (made : Option Turn) (i j : Journal D) → i.torn ≡ None → NotedIn state made a i j (Ok tt)
    → j.torn ≡ None
still_open {D} state a None i j open_now n = ap (λ (k : Journal D). k.torn) n.0 ∙ open_now
still_open state a (Some t) i j open_now n = n.ok.open_now

nothing_in : {D : Type 0} (state : D → DiskState) (i j : Journal D) → i.torn ≡ None → j ≡ i → HasFault fault.Memory None (entered state i j)
nothing_in state i j open_now e = (refl, open_now, as_it_was state i j e)

pub torn_some : (torn : Option DiskFail) → is_some torn ≡ true → (why : DiskFail) × (torn ≡ Some why)
torn_some None e = cc
torn_some (Some why) e = (why, refl)

pub torn_none : (torn : Option DiskFail) → is_some torn ≡ false → torn ≡ None
torn_none None e = refl
torn_none (Some why) e = cc

pub not_some : (torn : Option DiskFail) → ((why : DiskFail) → torn ≡ Some why → ⊥) → torn ≡ None
not_some None h = refl
not_some (Some why) h = absurd (h why refl)

-- ---- a Sense

module _ {A D : Type 0} (state : D → DiskState) (old mid new : Ticket A D) (x z : Deck A D) (m : Met state old mid x) (n : new.number ≡ mid.number)
    (sits : Sits old.number false (known old)) (open_now : x.journal.torn ≡ None) where
  module _ (r : Result Sensed Starved) (w : Result (Unit {0}) DiskFail) (y : Noted) (b : z.board ≡ y) (idle : phase_of old ≡ Idle)
      (h : IfOk r (HasSensed x.board y mid.number)) (l : IfOk r (SenseLeaves x.board y mid.number)) (e : OnErr r (y ≡ x.board))
      (i : NotedIn state (made_by_sense r) mid.number x.journal z.journal w) where
    sense_is : Made (made_by_sense r) x.board mid.number z.board
    sense_is = subst (Made (made_by_sense r) x.board mid.number) (sym b) (sense_makes mid.number r x.board y (at_phase state old mid x m Idle idle) h l e)

    pub sense_gives : DeckMayGive state (made_by_sense r) mid.number (knows mid) z
    sense_gives =
        may_give state old mid x m z (made_by_sense r) w sense_is (ap (λ (q : Noted). q.halted) b ∙ sense_halted mid.number r x.board y h e) open_now i

    sense_exchanged : knows new ≡ view.gave state (made_by_sense r) (knows mid) z → Exchanged old new (made_by_sense r) (shown z)
    sense_exchanged g =
        exchanged state old mid x m new z (made_by_sense r) n g sits sense_gives.gives.kept.tells (subst (λ (k : ℕ). Made (made_by_sense r) x.board k z.board) m.number sense_is)

  entry_of : (s : Sensed) (y : Noted) → SenseLeaves x.board y mid.number s → NotedIn state (sensed s) mid.number x.journal z.journal (Ok tt)
      → HasEntry s (entered state x.journal z.journal)
  entry_of (answer.Input i) y l k = written_in state mid.number x.journal z.journal open_now k
  entry_of (answer.Left e) y l k = written_in state mid.number x.journal z.journal open_now k
  entry_of (answer.Ahead c q) y l k = (open_now, as_it_was state x.journal z.journal k.0)
  entry_of answer.Halted y l k = absurd (true≢false (sym l.0 ∙ m.kept.runs))

  -- the board before a call, and the one after it, where the journal was not torn
  from_met : met_by new ≡ shown x → x.board ≡ met_by new
  from_met q = sym (q ∙ shown_open x m.kept.runs open_now)

  from_after : (y : Noted) → z.board ≡ y → y.halted ≡ x.board.halted → z.journal.torn ≡ None → y ≡ shown z
  from_after y b h torn = sym (shown_open z (ap (λ (k : Noted). k.halted) b ∙ h ∙ m.kept.runs) torn ∙ b)

  sensed_from : (s : Sensed) (y : Noted) → z.board ≡ y → HasSensed x.board y mid.number s → NotedIn state (sensed s) mid.number x.journal z.journal (Ok tt) →
      knows new ≡ view.gave state (sensed s) (knows mid) z → ◌≡◌ {A = Noted × Noted × ℕ} (x.board, y, mid.number) (met_by new, shown z, old.number)
  sensed_from s y b h i g =
      let p = from_met (met_again state old mid x m new z (sensed s) n g) in
      let q = from_after y b h.halted (still_open state mid.number (sensed s) x.journal z.journal open_now i) in
      λ j. (p j, q j, m.number j)

  pub sense_recorded : (r : Result Sensed Starved) (w : Result (Unit {0}) DiskFail) (y : Noted) → z.board ≡ y → phase_of old ≡ Idle
      → IfOk r (HasSensed x.board y mid.number) → IfOk r (SenseLeaves x.board y mid.number) →
      OnErr r (y ≡ x.board) → NotedIn state (made_by_sense r) mid.number x.journal z.journal w → knows new ≡ view.gave state (made_by_sense r) (knows mid) z
      → IfOk (answered r w) (SenseRecorded old new)
  sense_recorded (Ok s) (Ok tt) y b idle h l e i g = record {
    after = shown z;
    entered = entered state x.journal z.journal;
    exchanged = sense_exchanged (Ok s) (Ok tt) y b idle h l e i g;
    seen = is_seen state old mid x m new z (sensed s) n g;
    last = last_is state old mid x m new z (sensed s) n g;
    answered = subst (λ (t : Noted × Noted × ℕ). HasSensed t.0 t.1 t.2 s) (sensed_from s y b h i g) h;
    leaves = subst (λ (t : Noted × Noted × ℕ). SenseLeaves t.0 t.1 t.2 s) (sensed_from s y b h i g) l;
    entry = entry_of s y l i;
  }
  sense_recorded (Ok s) (Err f) y b idle h l e i g = tt
  sense_recorded (Err q) w y b idle h l e i g = tt

  pub sense_refused : (r : Result Sensed Starved) (w : Result (Unit {0}) DiskFail) (y : Noted) → z.board ≡ y → phase_of old ≡ Idle
      → IfOk r (HasSensed x.board y mid.number) → IfOk r (SenseLeaves x.board y mid.number) →
      OnErr r (y ≡ x.board) → NotedIn state (made_by_sense r) mid.number x.journal z.journal w → knows new ≡ view.gave state (made_by_sense r) (knows mid) z
      → IfErr (answered r w) (SenseRefused old new)
  sense_refused (Ok s) (Ok u) y b idle h l e i g = tt
  sense_refused (Ok s) (Err f) y b idle h l e i g = record {
    made = sensed s;
    after = shown z;
    entered = entered state x.journal z.journal;
    exchanged = sense_exchanged (Ok s) (Err f) y b idle h l e i g;
    seen = is_seen state old mid x m new z (sensed s) n g;
    last = last_is state old mid x m new z (sensed s) n g;
    cause = fault_in state mid.number (sensed s) x.journal z.journal f open_now i;
  }
  sense_refused (Err q) w y b idle h l e i g = record {
    made = None;
    after = shown z;
    entered = entered state x.journal z.journal;
    exchanged = sense_exchanged (Err q) w y b idle h l e i g;
    seen = is_seen state old mid x m new z None n g;
    last = last_is state old mid x m new z None n g;
    cause = nothing_in state x.journal z.journal open_now i.0;
  }

  -- ---- an Emit and a Leave

  module _ (outs : Outs) (r : Result (Option Feedback) Starved) (w : Result (Unit {0}) DiskFail) (y : Noted) (b : z.board ≡ y) (busy : phase_of old ≡ Busy)
      (h : IfOk r (HasEmitted x.board y mid.number outs)) (e : OnErr r (y ≡ x.board))
      (i : NotedIn state (made_by_emit outs r) mid.number x.journal z.journal w) where
    emit_is : Made (made_by_emit outs r) x.board mid.number z.board
    emit_is = subst (Made (made_by_emit outs r) x.board mid.number) (sym b) (emit_makes mid.number outs r x.board y (at_phase state old mid x m Busy busy) h e)

    pub emit_gives : DeckMayGive state (made_by_emit outs r) mid.number (knows mid) z
    emit_gives =
        may_give state old mid x m z (made_by_emit outs r) w emit_is (ap (λ (q : Noted). q.halted) b ∙ emit_halted mid.number outs r x.board y h e) open_now i

    emit_exchanged : knows new ≡ view.gave state (made_by_emit outs r) (knows mid) z → Exchanged old new (made_by_emit outs r) (shown z)
    emit_exchanged g =
        exchanged state old mid x m new z (made_by_emit outs r) n g sits emit_gives.gives.kept.tells (subst (λ (k : ℕ). Made (made_by_emit outs r) x.board k z.board) m.number emit_is)

  pub emit_recorded : (outs : Outs) (r : Result (Option Feedback) Starved) (w : Result (Unit {0}) DiskFail) (y : Noted) → z.board ≡ y → phase_of old ≡ Busy
      → IfOk r (HasEmitted x.board y mid.number outs) →
      OnErr r (y ≡ x.board) → NotedIn state (made_by_emit outs r) mid.number x.journal z.journal w
      → knows new ≡ view.gave state (made_by_emit outs r) (knows mid) z → IfOk (answered r w) (EmitRecorded old new outs)
  emit_recorded outs (Ok f) (Ok tt) y b busy h e i g = record {
    after = shown z;
    entered = entered state x.journal z.journal;
    exchanged = emit_exchanged outs (Ok f) (Ok tt) y b busy h e i g;
    seen = is_seen state old mid x m new z (Some (turn.Emitted outs f)) n g;
    last = last_is state old mid x m new z (Some (turn.Emitted outs f)) n g;
    answered =
        (let p = from_met (met_again state old mid x m new z (Some (turn.Emitted outs f)) n g) in
        let q = from_after y b h.halted i.ok.open_now in
        subst (λ (t : Noted × Noted × ℕ). HasEmitted t.0 t.1 t.2 outs f) (λ j. (p j, q j, m.number j)) h);
    written = written_in state mid.number x.journal z.journal open_now i;
  }
  emit_recorded outs (Ok f) (Err q) y b busy h e i g = tt
  emit_recorded outs (Err q) w y b busy h e i g = tt

  pub emit_refused : (outs : Outs) (r : Result (Option Feedback) Starved) (w : Result (Unit {0}) DiskFail) (y : Noted) → z.board ≡ y → phase_of old ≡ Busy
      → IfOk r (HasEmitted x.board y mid.number outs) →
      OnErr r (y ≡ x.board) → NotedIn state (made_by_emit outs r) mid.number x.journal z.journal w
      → knows new ≡ view.gave state (made_by_emit outs r) (knows mid) z → IfErr (answered r w) (TurnRefused old new)
  emit_refused outs (Ok f) (Ok u) y b busy h e i g = tt
  emit_refused outs (Ok f) (Err q) y b busy h e i g = record {
    made = Some (turn.Emitted outs f);
    after = shown z;
    entered = entered state x.journal z.journal;
    exchanged = emit_exchanged outs (Ok f) (Err q) y b busy h e i g;
    seen = is_seen state old mid x m new z (Some (turn.Emitted outs f)) n g;
    last = last_is state old mid x m new z (Some (turn.Emitted outs f)) n g;
    cause = inl (fault_in state mid.number (Some (turn.Emitted outs f)) x.journal z.journal q open_now i);
  }
  emit_refused outs (Err q) w y b busy h e i g = record {
    made = None;
    after = shown z;
    entered = entered state x.journal z.journal;
    exchanged = emit_exchanged outs (Err q) w y b busy h e i g;
    seen = is_seen state old mid x m new z None n g;
    last = last_is state old mid x m new z None n g;
    cause = inl (nothing_in state x.journal z.journal open_now i.0);
  }

  leave_is : phase_of old ≡ Busy → HasLeft x.board z.board mid.number Budget → Made (Some turn.Gone) x.board mid.number z.board
  leave_is busy h = ((at_phase state old mid x m Busy busy, h.state), h.schedule)

  pub leave_gives : (w : Result (Unit {0}) DiskFail) → phase_of old ≡ Busy → HasLeft x.board z.board mid.number Budget
      → Appended state mid.number x.journal z.journal w → DeckMayGive state (Some turn.Gone) mid.number (knows mid) z
  leave_gives w busy h i = may_give state old mid x m z (Some turn.Gone) w (leave_is busy h) h.halted open_now i

  leave_exchanged : (w : Result (Unit {0}) DiskFail) → phase_of old ≡ Busy → HasLeft x.board z.board mid.number Budget
      → Appended state mid.number x.journal z.journal w → knows new ≡ view.gave state (Some turn.Gone) (knows mid) z
      → Exchanged old new (Some turn.Gone) (shown z)
  leave_exchanged w busy h i g =
      exchanged state old mid x m new z (Some turn.Gone) n g sits (leave_gives w busy h i).gives.kept.tells
      (subst (λ (k : ℕ). Made (Some turn.Gone) x.board k z.board) m.number (leave_is busy h))

  leave_recorded : phase_of old ≡ Busy → HasLeft x.board z.board mid.number Budget → Appended state mid.number x.journal z.journal (Ok tt)
      → knows new ≡ view.gave state (Some turn.Gone) (knows mid) z → LeaveRecorded old new
  leave_recorded busy h i g = record {
    after = shown z;
    entered = entered state x.journal z.journal;
    exchanged = leave_exchanged (Ok tt) busy h i g;
    seen = is_seen state old mid x m new z (Some turn.Gone) n g;
    last = last_is state old mid x m new z (Some turn.Gone) n g;
    answered =
        (let p = from_met (met_again state old mid x m new z (Some turn.Gone) n g) in
        let q = from_after z.board refl h.halted i.ok.open_now in
        subst (λ (t : Noted × Noted × ℕ). HasLeft t.0 t.1 t.2 Budget) (λ j. (p j, q j, m.number j)) h);
    written = written_in state mid.number x.journal z.journal open_now i;
  }

  leave_refused : (f : DiskFail) → phase_of old ≡ Busy → HasLeft x.board z.board mid.number Budget → Appended state mid.number x.journal z.journal (Err f)
      → knows new ≡ view.gave state (Some turn.Gone) (knows mid) z →
      TurnRefused old new (fault_of f)
  leave_refused f busy h i g = record {
    made = Some turn.Gone;
    after = shown z;
    entered = entered state x.journal z.journal;
    exchanged = leave_exchanged (Err f) busy h i g;
    seen = is_seen state old mid x m new z (Some turn.Gone) n g;
    last = last_is state old mid x m new z (Some turn.Gone) n g;
    cause = inl (f, refl, torn_in state mid.number x.journal z.journal f open_now i);
  }

  pub leave_told : (w : Result (Unit {0}) DiskFail) → phase_of old ≡ Busy → HasLeft x.board z.board mid.number Budget
      → Appended state mid.number x.journal z.journal w →
      knows new ≡ view.gave state (Some turn.Gone) (knows mid) z → OnOk (answered {T = Unit {0}} (Ok tt) w) (LeaveRecorded old new)
  leave_told (Ok tt) busy h i g = leave_recorded busy h i g
  leave_told (Err f) busy h i g = tt

  pub leave_fault : (w : Result (Unit {0}) DiskFail) → phase_of old ≡ Busy → HasLeft x.board z.board mid.number Budget
      → Appended state mid.number x.journal z.journal w →
      knows new ≡ view.gave state (Some turn.Gone) (knows mid) z → IfErr (answered {T = Unit {0}} (Ok tt) w) (TurnRefused old new)
  leave_fault (Ok u) busy h i g = tt
  leave_fault (Err f) busy h i g = leave_refused f busy h i g

-- ---- where nothing was made

pub returned : {A D : Type 0} (state : D → DiskState) (old mid new : Ticket A D) (x : Deck A D) → Met state old mid x → new.number ≡ mid.number
    → Sits old.number false (known old) →
    knows new ≡ view.gave state None (knows mid) x → Exchanged old new None (met_by new)
returned state old mid new x m n sits g =
    subst (Exchanged old new None) (sym (met_again state old mid x m new x None n g)) (exchanged state old mid x m new x None n g sits m.kept.tells (refl, refl))

-- ---- on a torn journal

module _ {A D : Type 0} (state : D → DiskState) (old mid new : Ticket A D) (x : Deck A D) (m : Met state old mid x) (n : new.number ≡ mid.number)
    (sits : Sits old.number false (known old)) (why : DiskFail)
    (torn : x.journal.torn ≡ Some why) (g : knows new ≡ view.gave state None (knows mid) x) where
  same_exchanged : Exchanged old new None (shown x)
  same_exchanged = exchanged state old mid x m new x None n g sits m.kept.tells (refl, refl)

  met_same : shown x ≡ met_by new
  met_same = sym (met_again state old mid x m new x None n g)

  is_halted : (shown x).halted ≡ true
  is_halted = ap is_some torn

  same_seen : IsSeen (entered state x.journal x.journal) (met_by new) (shown x)
  same_seen = is_seen state old mid x m new x None n g

  same_last : entered state x.journal x.journal ≡ view.entered_by (knows new)
  same_last = last_is state old mid x m new x None n g

  halted_sensed : HasSensed (shown x) (shown x) old.number answer.Halted
  halted_sensed = record {
    state = sym (ap (λ b. cond b (answer.Halted, x.board.state) (board.sense x.board.state old.number)) is_halted);
    schedule = sym (append-nil x.board.schedule);
    halted = refl;
  }

  pub sense_torn : SenseRecorded old new answer.Halted
  sense_torn = record {
    after = shown x;
    entered = entered state x.journal x.journal;
    exchanged = same_exchanged;
    seen = same_seen;
    last = same_last;
    answered = subst (λ (b : Noted). HasSensed b (shown x) old.number answer.Halted) met_same halted_sensed;
    leaves = subst (λ (b : Noted). SenseLeaves b (shown x) old.number answer.Halted) met_same (is_halted, refl);
    entry = (why, torn, record { torn = refl; faults = refl });
  }

  pub turn_torn : (f : DeckFault) → f ≡ fault_of why → TurnRefused old new f
  turn_torn f e = record {
    made = None;
    after = shown x;
    entered = entered state x.journal x.journal;
    exchanged = same_exchanged;
    seen = same_seen;
    last = same_last;
    cause = inr record { why = why; nothing = refl; torn = torn; fault_is = e; same = record { torn = refl; faults = refl } };
  }
