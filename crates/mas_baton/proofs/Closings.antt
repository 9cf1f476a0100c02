-- The seats come back.
use Rattle.std.proofs.Common.{◌≡◌, ℕ, suc, ◌+◌, Some, List, [], ◌∷◌, ◌++◌, length, sym, ap, ◌∙◌, subst, refl, length-append, append_assoc, arith}
use Rattle.std.specs.Prelude.{remove, slice_get}
use Rattle.std.proofs.lemmas.Option.{same_Some}
use Rattle.crossbeam_queue.specs.Fifo.{Merges, Pops, Learns}
use Rattle.crossbeam_queue.specs.Passes.{Pass, view, IsPassOf, IsSamePass}
use Rattle.mas_board_lists.specs.Lists.{Each, Row, StartsWith, times, once_in}
use Rattle.mas_board_lists.proofs.Sums.{each_front, each_left, each_row}
use Rattle.mas_board.specs.Boards.{Noted}
use Rattle.mas_board_turns.specs.declared.turn.Turn.{Turn}
use Rattle.mas_board_turns.specs.Turns.{Entry, Plays, names, of}
use Rattle.mas_board_turns.specs.declared.view.SideView.{SideView}
use Rattle.mas_board_turns.specs.Views.{Turns, Opening, numbers, silent}
use Rattle.mas_board_turns.specs.Steps.{both_of, spent, IsWhole}
use Rattle.mas_board_turns.specs.Rule.{Holds, Told, order}
use Rattle.mas_board_turns.proofs.Views.{both_times, silent_once}
use Rattle.mas_board_turns.proofs.Takes.{seated}
use Rattle.mas_board_turns.proofs.Joins.{merges}
use Rattle.mas_board_turns.proofs.Ends.{closes, is_there}
use Rattle.mas_baton.specs.declared.baton.Baton.{Baton}
use Rattle.mas_baton.specs.declared.seat.Seat.{Seat}
use Rattle.mas_baton.specs.Rule.{showing}
use Rattle.mas_baton.specs.Seats.{known, turns_of, seen_by, IsSeatOf, IsBack, AllBack, Closed}
use Rattle.mas_baton.specs.Gathering.{Gathers, joined, Gathering}

module _ {A : Type 0} where
  joined_gathers : (v : SideView) (ss : List (Seat A)) → Gathers v → Gathers (joined v ss)
  joined_gathers v [] g = g
  joined_gathers v (s ∷ ss) g = let h = joined_gathers v ss g in
      record { started = h.started; free = h.free; some = (let m = h.some in let n = length-append (joined v ss).turns (known s).turns in omega arith) }

  gathers_again : (v w : SideView) (ss : List (Seat A)) → Gathers v → w ≡ joined v ss → Gathers w
  gathers_again v w ss g e = subst Gathers (sym e) (joined_gathers v ss g)

  module _ (b : Baton A) (v : SideView) (all left rest : List (Seat A)) (p : Pass Noted SideView) (s : Seat A) (h : Gathering b v all p left) (e : left ≡ rest ++ s ∷ []) where
    abbrev last : Each (IsSeatOf b) rest × IsSeatOf b s
    last = each_front (IsSeatOf b) rest s (subst (Each (IsSeatOf b)) e h.seats)

    pub gather_pass : IsPassOf b.line s.pass
    gather_pass = last.1.pass

    pub gather_merges : Gathers v → Merges (Holds showing) p.id (view p) s.pass.id (view s.pass) (both_of (view p) (view s.pass)) spent
    gather_merges g = let k = gathers_again v (view p) h.done g h.is in merges p.id (view p) s.pass.id (view s.pass) k.started k.free last.1.sits.held k.some

    pub gather_more : (q : Pass Noted SideView) → IsSamePass p q → view q ≡ both_of (view p) (view s.pass) → Gathering b v all q rest
    gather_more q same d = record {
      pass = (same.0 ∙ h.pass.0, same.2 ∙ h.pass.1);
      done = s ∷ h.done;
      whole = h.whole ∙ ap (λ (l : List (Seat A)). l ++ h.done) e ∙ append_assoc rest (s ∷ []) h.done;
      is = d ∙ ap (λ (u : SideView). both_of u (known s)) h.is;
      seats = last.0;
    }

  -- ---- with all seats the view is whole

  joined_first : (v : SideView) (ss : List (Seat A)) → (joined v ss).first ≡ v.first
  joined_first v [] = refl
  joined_first v (s ∷ ss) = joined_first v ss

  joined_times : (b : Baton A) (a k : ℕ) (v : SideView) (ss : List (Seat A)) → Row (IsBack b) k ss → times a (numbers (joined v ss).turns) ≡ times a (numbers v.turns) + times a (numbers (silent k (length ss)))
  joined_times b a k v [] h = omega arith
  joined_times b a k v (s ∷ ss) h =
      let i = joined_times b a (suc k) v ss h.1 in
      let t = ap (λ (l : Turns). times a (numbers l)) h.0.seat.sits.turns in
      let u = ap (λ (n : ℕ). times a (n ∷ [])) h.0.number in
      both_times a (joined v ss).turns (known s).turns ∙ (omega arith)

  each_back : (b : Baton A) (k : ℕ) (ss : List (Seat A)) → Row (IsBack b) k ss → Each (IsSeatOf b) ss
  each_back b k ss h = each_row (IsBack b) (IsSeatOf b) k ss (λ n s i. i.seat) h

  whole_of : (b : Baton A) (s : Seat A) (ss : List (Seat A)) → AllBack b (s ∷ ss) → IsWhole (joined (known s) ss)
  whole_of b s ss h a =
      let e = h.each in
      let i = joined_times b a 2 (known s) ss e.1 in
      let t = ap (λ (l : Turns). times a (numbers l)) e.0.seat.sits.turns in
      let u = ap (λ (n : ℕ). times a (n ∷ [])) e.0.number in
      let o = silent_once a 1 (length (s ∷ ss)) in
      let n = ap (once_in a 1) (h.all ∙ ap (λ (o : Opening). length o.board.state.seats) (sym (joined_first (known s) ss))) in
      omega arith

  mine_all : (b : Baton A) (log : List Entry) (k : ℕ) (v : SideView) (ss : List (Seat A)) → Row (IsBack b) k ss → Each (λ (e : ℕ × List Turn). of e.0 log ≡ e.1) (joined v ss).turns →
      Each (λ (e : ℕ × List Turn). of e.0 log ≡ e.1) v.turns × Each (λ (s : Seat A). of s.number log ≡ turns_of s) ss
  mine_all b log k v [] r h = (h, tt)
  mine_all b log k v (s ∷ ss) r h =
      let P : ℕ × List Turn → Type 0 = λ e. of e.0 log ≡ e.1 in
      let f = each_front P (joined v ss).turns (s.number, turns_of s) (subst (λ (l : Turns). Each P ((joined v ss).turns ++ l)) r.0.seat.sits.turns h) in
      let m = mine_all b log (suc k) v ss r.1 f.0 in
      (m.0, (f.1, m.1))

  sees_all : (n : List ℕ) (v : SideView) (ss : List (Seat A)) → StartsWith n (joined v ss).seen → Each (StartsWith n) (joined v ss).olds → StartsWith n v.seen × Each (λ (s : Seat A). StartsWith n (seen_by s)) ss
  sees_all n v [] h k = (h, tt)
  sees_all n v (s ∷ ss) h k = let r = sees_all n v ss k.0 (each_left (StartsWith n) (joined v ss).olds (known s).olds k.1.1) in (r.0, (k.1.0, r.1))

  closed_by : (b : Baton A) (s : Seat A) (ss : List (Seat A)) (board : Noted) → AllBack b (s ∷ ss) → Told showing (joined (known s) ss) board → Closed (s ∷ ss) board
  closed_by b s ss board h t =
      let m = mine_all b t.log 2 (known s) ss h.each.1 t.mine in
      let P : ℕ × List Turn → Type 0 = λ e. of e.0 t.log ≡ e.1 in
      let o = sees_all board.schedule (known s) ss t.sees t.olds in
      let first = joined_first (known s) ss in
      record {
        log = t.log;
        plays = subst (λ (f : Opening). Plays f.board.state t.log board.state) first t.plays;
        order = ap (λ (l : List ℕ). l ++ names t.log) (sym h.each.0.seat.fresh.unplayed) ∙ subst (λ (f : Opening). order f t.log ≡ board.schedule) first t.scheduled;
        turns = ((subst (Each P) h.each.0.seat.sits.turns m.0).0, m.1);
        seen = (o.0, o.1);
      }

  -- ---- as the calls need it: the first seat is removed, and the others are taken in

  pub record Head (b : Baton A) (ss rest : List (Seat A)) (s : Seat A) : Type 0 where
    pub is : ss ≡ s ∷ rest
    pub pass : IsPassOf b.line s.pass
    pub gathers : Gathers (known s)
    pub others : Each (IsSeatOf b) rest

  pub removed : (ss rest : List (Seat A)) (s : Seat A) → rest ≡ remove ss 0 → Some s ≡ slice_get ss 0 → ss ≡ s ∷ rest
  removed [] rest s e d = cc
  removed (x ∷ xs) rest s e d = let f : s ≡ x = same_Some s x d in λ i. sym f i ∷ sym e i

  pub head_of : (b : Baton A) (ss rest : List (Seat A)) (s : Seat A) → AllBack b ss → rest ≡ remove ss 0 → Some s ≡ slice_get ss 0 → Head b ss rest s
  head_of b ss rest s h d f =
      let e = removed ss rest s d f in
      let k = subst (AllBack b) e h in
      let t = k.each.0.seat in
      record { is = e; pass = t.pass; gathers = record { started = t.sits.started; free = t.sits.held; some = seated t.sits }; others = each_back b 2 rest k.each.1 }

  pub close_pops : (b : Baton A) (ss rest : List (Seat A)) (s : Seat A) (p : ℕ) (v : SideView) → AllBack b ss → Head b ss rest s → v ≡ joined (known s) rest →
      Pops (Holds showing) p v (λ x w. Told showing v x) × Learns (Holds showing) p v (λ items. length items ≡ 1)
  close_pops b ss rest s p v h d e =
      let k = subst (AllBack b) d.is h in
      let g = gathers_again (known s) v rest d.gathers e in
      (closes p v g.started g.some, is_there p v g.started g.free g.some (subst IsWhole (sym e) (whole_of b s rest k)))

  pub closed : (b : Baton A) (ss rest : List (Seat A)) (s : Seat A) (v : SideView) (board : Noted) → AllBack b ss → Head b ss rest s → v ≡ joined (known s) rest → Told showing v board → Closed ss board
  closed b ss rest s v board h d e t =
      subst (λ (l : List (Seat A)). Closed l board) (sym d.is) (closed_by b s rest board (subst (AllBack b) d.is h) (subst (λ (u : SideView). Told showing u board) e t))
