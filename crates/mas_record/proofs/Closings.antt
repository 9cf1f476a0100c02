-- The tickets come back.
use Rattle.std.proofs.Common.{◌≡◌, ℕ, suc, ◌+◌, Some, List, [], ◌∷◌, ◌++◌, length, sym, ap, ◌∙◌, subst, refl, length-append, append_assoc}
use Rattle.std.proofs.Common.{arith}
use Rattle.std.specs.Prelude.{remove, slice_get}
use Rattle.std.proofs.lemmas.Option.{same_Some}
use Rattle.crossbeam_queue.specs.Fifo.{Merges, Pops, Learns}
use Rattle.crossbeam_queue.specs.Passes.{Pass, view, IsPassOf, IsSamePass}
use Rattle.mas_board_lists.specs.Lists.{Each, Row, StartsWith, times, once_in}
use Rattle.mas_board_lists.proofs.Sums.{each_front, each_left, each_row}
use Rattle.mas_record_disk.specs.Disk.{DiskState}
use Rattle.mas_record_journal.specs.declared.journal.Journal.{Journal}
use Rattle.mas_board_turns.specs.declared.turn.Turn.{Turn}
use Rattle.mas_board_turns.specs.Turns.{Entry, Plays, of}
use Rattle.mas_record.specs.declared.deck.Deck.{Deck}
use Rattle.mas_record.specs.declared.recorder.Recorder.{Recorder}
use Rattle.mas_record.specs.declared.side.DeckView.{DeckView}
use Rattle.mas_record.specs.declared.ticket.Ticket.{Ticket}
use Rattle.mas_board_turns.specs.Views.{Turns, Opening, numbers, silent}
use Rattle.mas_board_turns.specs.Steps.{IsWhole}
use Rattle.mas_board_turns.specs.Rule.{order}
use Rattle.mas_record.specs.Rule.{IsKept}
use Rattle.mas_record.specs.Views.{both_of, spent}
use Rattle.mas_record.specs.Standing.{IsStill, DeckHolds, DeckTold}
use Rattle.mas_record.specs.Tickets.{knows, known, turns_of, seen_by, journals_of, IsTicketOf, IsBack, AllBack, Closed}
use Rattle.mas_record.specs.Gathering.{Gathers, joined, Gathering}
use Rattle.mas_board_turns.proofs.Views.{both_times, silent_once}
use Rattle.mas_board_turns.proofs.Takes.{seated}
use Rattle.mas_board_turns.proofs.Joins.{merges}
use Rattle.mas_record.proofs.Standing.{deck_merges, deck_closes, deck_there}

each_right : {X : Type 0} (P : X → Type 0) (l m : List X) → Each P (l ++ m) → Each P m
each_right P [] m h = h
each_right P (x ∷ l) m h = each_right P l m h.1

module _ {A D : Type 0} (state : D → DiskState) where
  joined_gathers : (v : DeckView D) (ss : List (Ticket A D)) → Gathers v.side → Gathers (joined v ss).side
  joined_gathers v [] g = g
  joined_gathers v (s ∷ ss) g = let h = joined_gathers v ss g in
      record { started = h.started; free = h.free; some = (let m = h.some in let n = length-append (joined v ss).side.turns (known s).turns in omega arith) }

  gathers_again : (v w : DeckView D) (ss : List (Ticket A D)) → Gathers v.side → w ≡ joined v ss → Gathers w.side
  gathers_again v w ss g e = subst (λ (u : DeckView D). Gathers u.side) (sym e) (joined_gathers v ss g)

  module _ (b : Recorder A D) (v : DeckView D) (all left rest : List (Ticket A D)) (p : Pass (Deck A D) (DeckView D)) (s : Ticket A D) (h : Gathering b v all p left)
      (e : left ≡ rest ++ s ∷ []) where
    abbrev last : Each (IsTicketOf b) rest × IsTicketOf b s
    last = each_front (IsTicketOf b) rest s (subst (Each (IsTicketOf b)) e h.tickets)

    pub gather_pass : IsPassOf b.line s.pass
    gather_pass = last.1.pass

    pub gather_merges : Gathers v.side → Merges (DeckHolds {A = A} state) p.id (view p) s.pass.id (view s.pass) (both_of (view p) (view s.pass)) spent
    gather_merges g =
        let k = gathers_again v (view p) h.done g h.is in
        deck_merges state p.id (view p) s.pass.id (view s.pass)
        (merges p.id (view p).side s.pass.id (view s.pass).side k.started k.free last.1.sits.held k.some)

    pub gather_more : (q : Pass (Deck A D) (DeckView D)) → IsSamePass p q → view q ≡ both_of (view p) (view s.pass) → Gathering b v all q rest
    gather_more q same d = record {
      pass = (same.0 ∙ h.pass.0, same.2 ∙ h.pass.1);
      done = s ∷ h.done;
      whole = h.whole ∙ ap (λ (l : List (Ticket A D)). l ++ h.done) e ∙ append_assoc rest (s ∷ []) h.done;
      is = d ∙ ap (λ (u : DeckView D). both_of u (knows s)) h.is;
      tickets = last.0;
    }

  -- ---- with all seats the view is whole

  joined_first : (v : DeckView D) (ss : List (Ticket A D)) → (joined v ss).side.first ≡ v.side.first
  joined_first v [] = refl
  joined_first v (s ∷ ss) = joined_first v ss

  joined_times : (b : Recorder A D) (a k : ℕ) (v : DeckView D) (ss : List (Ticket A D)) → Row (IsBack b) k ss
      → times a (numbers (joined v ss).side.turns) ≡ times a (numbers v.side.turns) + times a (numbers (silent k (length ss)))
  joined_times b a k v [] h = omega arith
  joined_times b a k v (s ∷ ss) h =
      let i = joined_times b a (suc k) v ss h.1 in
      let t = ap (λ (l : Turns). times a (numbers l)) h.0.ticket.sits.turns in
      let u = ap (λ (n : ℕ). times a (n ∷ [])) h.0.number in
      both_times a (joined v ss).side.turns (known s).turns ∙ (omega arith)

  each_back : (b : Recorder A D) (k : ℕ) (ss : List (Ticket A D)) → Row (IsBack b) k ss → Each (IsTicketOf b) ss
  each_back b k ss h = each_row (IsBack b) (IsTicketOf b) k ss (λ n s i. i.ticket) h

  whole_of : (b : Recorder A D) (s : Ticket A D) (ss : List (Ticket A D)) → AllBack b (s ∷ ss) → IsWhole (joined (knows s) ss).side
  whole_of b s ss h a =
      let e = h.each in
      let i = joined_times b a 2 (knows s) ss e.1 in
      let t = ap (λ (l : Turns). times a (numbers l)) e.0.ticket.sits.turns in
      let u = ap (λ (n : ℕ). times a (n ∷ [])) e.0.number in
      let o = silent_once a 1 (length (s ∷ ss)) in
      let n = ap (once_in a 1) (h.all ∙ ap (λ (o : Opening). length o.board.state.seats) (sym (joined_first (knows s) ss))) in
      omega arith

  mine_all : (b : Recorder A D) (log : List Entry) (k : ℕ) (v : DeckView D) (ss : List (Ticket A D)) → Row (IsBack b) k ss
      → Each (λ (e : ℕ × List Turn). of e.0 log ≡ e.1) (joined v ss).side.turns →
      Each (λ (e : ℕ × List Turn). of e.0 log ≡ e.1) v.side.turns × Each (λ (s : Ticket A D). of s.number log ≡ turns_of s) ss
  mine_all b log k v [] r h = (h, tt)
  mine_all b log k v (s ∷ ss) r h =
      let P : ℕ × List Turn → Type 0 = λ e. of e.0 log ≡ e.1 in
      let f = each_front P (joined v ss).side.turns (s.number, turns_of s) (subst (λ (l : Turns). Each P ((joined v ss).side.turns ++ l)) r.0.ticket.sits.turns h) in
      let m = mine_all b log (suc k) v ss r.1 f.0 in
      (m.0, (f.1, m.1))

  sees_all : (n : List ℕ) (v : DeckView D) (ss : List (Ticket A D)) → StartsWith n (joined v ss).side.seen → Each (StartsWith n) (joined v ss).side.olds
      → StartsWith n v.side.seen × Each (λ (s : Ticket A D). StartsWith n (seen_by s)) ss
  sees_all n v [] h k = (h, tt)
  sees_all n v (s ∷ ss) h k = let r = sees_all n v ss k.0 (each_left (StartsWith n) (joined v ss).side.olds (known s).olds k.1.1) in (r.0, (k.1.0, r.1))

  still_all : (x : Deck A D) (v : DeckView D) (ss : List (Ticket A D)) → Each (IsStill state x.journal) (joined v ss).left
      → Each (IsStill state x.journal) v.left × Each (λ (s : Ticket A D). Each (IsStill state x.journal) (journals_of s)) ss
  still_all x v [] h = (h, tt)
  still_all x v (s ∷ ss) h =
      let P : Journal D → Type 0 = IsStill state x.journal in
      let r = still_all x v ss (each_left P (joined v ss).left (journals_of s) h) in
      (r.0, (each_right P (joined v ss).left (journals_of s) h, r.1))

  closed_by : (b : Recorder A D) (s : Ticket A D) (ss : List (Ticket A D)) (x : Deck A D) → AllBack b (s ∷ ss)
      → DeckTold {A = A} state (joined (knows s) ss) x → Closed state (s ∷ ss) x
  closed_by b s ss x h d =
      let t = d.told in
      let m = mine_all b t.log 2 (knows s) ss h.each.1 t.mine in
      let P : ℕ × List Turn → Type 0 = λ e. of e.0 t.log ≡ e.1 in
      let o = sees_all x.board.schedule (knows s) ss t.sees t.olds in
      let first = joined_first (knows s) ss in
      record {
        log = t.log;
        plays = subst (λ (f : Opening). Plays f.board.state t.log x.board.state) first t.plays;
        scheduled = subst (λ (f : Opening). order f t.log ≡ x.board.schedule) first t.scheduled;
        turns = ((subst (Each P) h.each.0.ticket.sits.turns m.0).0, m.1);
        seen = (o.0, o.1);
        kept = subst (λ (f : Opening). IsKept state f x) first t.kept;
        still = still_all x (knows s) ss d.still;
      }

  -- ---- as the calls need it: the first seat is removed, and the others are taken in

  pub record Head (b : Recorder A D) (ss rest : List (Ticket A D)) (s : Ticket A D) : Type 0 where
    pub is : ss ≡ s ∷ rest
    pub pass : IsPassOf b.line s.pass
    pub gathers : Gathers (known s)
    pub others : Each (IsTicketOf b) rest

  pub removed : (ss rest : List (Ticket A D)) (s : Ticket A D) → rest ≡ remove ss 0 → Some s ≡ slice_get ss 0 → ss ≡ s ∷ rest
  removed [] rest s e d = cc
  removed (x ∷ xs) rest s e d = let f : s ≡ x = same_Some s x d in λ i. sym f i ∷ sym e i

  pub head_of : (b : Recorder A D) (ss rest : List (Ticket A D)) (s : Ticket A D) → AllBack b ss → rest ≡ remove ss 0 → Some s ≡ slice_get ss 0
      → Head b ss rest s
  head_of b ss rest s h d f =
      let e = removed ss rest s d f in
      let k = subst (AllBack b) e h in
      let t = k.each.0.ticket in
      record {
        is = e;
        pass = t.pass;
        gathers = record { started = t.sits.started; free = t.sits.held; some = seated t.sits };
        others = each_back b 2 rest
            k.each.1;
      }

  pub close_pops : (b : Recorder A D) (ss rest : List (Ticket A D)) (s : Ticket A D) (p : ℕ) (v : DeckView D) → AllBack b ss → Head b ss rest s
      → v ≡ joined (knows s) rest →
      Pops (DeckHolds {A = A} state) p v (λ x w. DeckTold {A = A} state v x)
      × Learns (DeckHolds {A = A} state) p v (λ items. length items ≡ 1)
  close_pops b ss rest s p v h d e =
      let k = subst (AllBack b) d.is h in
      let g = gathers_again (knows s) v rest d.gathers e in (
        deck_closes state p v g.started g.some,
        deck_there state p v g.started g.free g.some (subst (λ (u : DeckView D). IsWhole u.side) (sym e) (whole_of b s rest k)),
      )

  pub closed : (b : Recorder A D) (ss rest : List (Ticket A D)) (s : Ticket A D) (v : DeckView D) (x : Deck A D) → AllBack b ss → Head b ss rest s
      → v ≡ joined (knows s) rest → DeckTold {A = A} state v x →
      Closed state ss x
  closed b ss rest s v x h d e t =
      subst (λ (l : List (Ticket A D)). Closed state l x) (sym d.is) (closed_by b s rest x (subst (AllBack b) d.is h)
      (subst (λ (u : DeckView D). DeckTold {A = A} state u x) e t))
