-- The whole run, put together.
use Rattle.std.proofs.Common.{◌≡◌, ℕ, zero, suc, ◌+◌, ◌-◌, ◌<◌, ◌≤◌, Bool, true, false, if◌then◌else◌, Option, Some, None, Result, Ok, Err, OnOk, List, [], ◌∷◌, ◌++◌, length, map, slice_get, sym, refl, ap, ◌∙◌, subst, arith}
use Rattle.std.specs.Prelude.{◌&&◌}
use Rattle.asl_term.specs.Spare.{WithSpare}
use Rattle.mas_board_lists.specs.Lists.{Each, Row, StartsWith}
use Rattle.mas_record_disk.specs.Disk.{DiskState}
use Rattle.mas_mind.specs.declared.mind.Thought.{Thought}
use Rattle.mas_mind.specs.Minds.{Kind, IsAgent}
use Rattle.mas_board.specs.declared.seats.Phase.{Phase}
use Rattle.mas_board.specs.declared.seats.AgentPlace as board
use Rattle.mas_board.specs.Boards.{State, Noted, seat_of, seat_at, seat_or_none, is_gone}
use Rattle.mas_board.specs.Seating.{IsSound}
use Rattle.mas_board_turns.specs.declared.turn.Turn.{Turn}
use Rattle.mas_board_turns.specs.Turns.{Entry, Plays, names, of, phase_after, cycles_in}
use Rattle.mas_board_turns.specs.Follows.{Thinking, Follows}
use Rattle.mas_board_turns.proofs.Places.{plays_stands, plays_kept}
use Rattle.mas_core.specs.Platform.{Platform, run, ended}
use Rattle.mas_core.specs.Fits.{MindFits, FitsAt, AllFit, ThoughtFits}
use Rattle.mas_core_runs.specs.Followed.{FollowsAt, AllFollow}
use Rattle.mas_core_runs.proofs.Runs.{runs}
use Rattle.mas_board_turns.specs.Views.{Opening, no_opening}
use Rattle.mas_record.specs.declared.deck.Deck.{Deck}
use Rattle.mas_record.specs.declared.deck.DeckFault.{DeckFault}
use Rattle.mas_record.specs.declared.recorder.Recorder.{Recorder}
use Rattle.mas_record.specs.declared.ticket.Ticket.{Ticket}
use Rattle.mas_record.specs.Rule.{IsKept, opening}
use Rattle.mas_record.specs.Tickets.{turns_of, first_of, phase_of, agents_of, IsNew, IsBack, AllBack, Closed, Opened, first_by}
use Rattle.mas_record_rounds.specs.declared.sharer.Sharer.{Sharer}
use Rattle.mas_record_rounds.specs.Sharers.{Shares, Stays, Both, here_of, thinking_of, cycles_of}
use Rattle.mas_record_rounds.specs.declared.share.Waiting.{Waiting}
use Rattle.mas_record_rounds.specs.declared.share.Rooms.{Rooms}
use Rattle.mas_record_rounds.specs.Dealing.{HasRoom, AreRooms, AreWaiting, sharer_of, dealt, tickets_of, minds_of, thoughts_of}
use Rattle.mas_record_rounds.specs.Rounds.{Led, AllEnded}
use Rattle.mas_record_run.specs.Runs.{RanOn, Begins, HasPlayed}

-- ---- lists

gone_all : (seats : List board.AgentPlace) → ((i : ℕ) → i < length seats → is_gone (seat_or_none (slice_get seats i)).phase ≡ true) → ended seats ≡ true
gone_all [] h = refl
gone_all (s ∷ seats) h = two_true (is_gone s.phase) (ended seats) (h 0 (omega arith)) (gone_all seats (λ i l. h (suc i) (omega arith)))
  where
    two_true : (x y : Bool) → x ≡ true → y ≡ true → (x && y) ≡ true
    two_true true y e d = d
    two_true false y e d = cc

length_map : {S T : Type 0} (f : S → T) (xs : List S) → length (map f xs) ≡ length xs
length_map f [] = refl
length_map f (x ∷ xs) = ap suc (length_map f xs)

gone_or : (b : Bool) (n : ℕ) → (if b then n else 1 + n) ≡ 0 → (b ≡ true) × (n ≡ 0)
gone_or true n e = (refl, e)
gone_or false n e = absurd (omega (arith, e))

first_new : {A D : Type 0} (r : Recorder A D) (o : Opening) (ts : List (Ticket A D)) → 0 < length ts → Row (IsNew r o) 1 ts → first_by ts ≡ o
first_new r o [] l h = absurd (omega arith)
first_new r o (t ∷ ts) l h = h.0.first

module _ {V A D : Type 0} where
  abbrev mind_in : Waiting V A D → V
  mind_in w = w.mind

  abbrev thought_in : Waiting V A D → Option Thought
  thought_in w = w.thought

  pub dealt_length : (ts : List (Ticket A D)) (ws : List (Waiting V A D)) → length ws ≡ length ts → length (dealt ts ws) ≡ length ts
  dealt_length [] ws e = refl
  dealt_length (t ∷ ts) [] e = absurd (omega arith)
  dealt_length (t ∷ ts) (w ∷ ws) e = ap suc (dealt_length ts ws (omega arith))

  both_length : (P : Sharer V A D → Sharer V A D → Type 0) (xs us : List (Sharer V A D)) → Both P xs us → length us ≡ length xs
  both_length P [] [] h = refl
  both_length P [] (u ∷ us) h = absurd h
  both_length P (x ∷ xs) [] h = absurd h
  both_length P (x ∷ xs) (u ∷ us) h = ap suc (both_length P xs us h.1)

  -- ---- the tickets come back

  first_back : (r : Recorder A D) (o : Opening) (ts : List (Ticket A D)) (ws : List (Waiting V A D)) (us : List (Sharer V A D)) → 0 < length ts
      → length ws ≡ length ts → Row (IsNew r o) 1 ts → Both (Stays r) (dealt ts ws) us → first_by (tickets_of us) ≡ o
  first_back r o [] ws us l e h b = absurd (omega arith)
  first_back r o (t ∷ ts) [] us l e h b = absurd (omega arith)
  first_back r o (t ∷ ts) (w ∷ ws) [] l e h b = absurd b
  first_back r o (t ∷ ts) (w ∷ ws) (u ∷ us) l e h b = b.0.first ∙ h.0.first

  back_row : (r : Recorder A D) (o : Opening) (n : ℕ) (ts : List (Ticket A D)) (ws : List (Waiting V A D)) (us : List (Sharer V A D)) → length ws ≡ length ts
      → Row (IsNew r o) n ts → Both (Stays r) (dealt ts ws) us → Row (IsBack r) n (tickets_of us)
  back_row r o n [] ws [] e h b = tt
  back_row r o n [] ws (u ∷ us) e h b = absurd b
  back_row r o n (t ∷ ts) [] us e h b = absurd (omega arith)
  back_row r o n (t ∷ ts) (w ∷ ws) [] e h b = absurd b
  back_row r o n (t ∷ ts) (w ∷ ws) (u ∷ us) e h b =
      (record { ticket = b.0.ticket; number = b.0.agent ∙ h.0.number }, back_row r o (suc n) ts ws us (omega arith) h.1 b.1)

  pub all_back : (k : Kind V) (r : Recorder A D) (o : Opening) (ts : List (Ticket A D)) (ws : List (Waiting V A D)) (us : List (Sharer V A D)) → Begins k r o ts ws
      → Both (Stays r) (dealt ts ws) us → AllBack r (tickets_of us)
  all_back k r o ts ws us g b =
      let n = both_length (Stays r) (dealt ts ws) us b in
      let m = dealt_length ts ws g.count in
      let l = length_map (λ (s : Sharer V A D). s.ticket) us in
      let first = first_back r o ts ws us g.some g.count g.each b in
      record {
        some = (let s = g.some in omega arith);
        each = back_row r o 1 ts ws us g.count g.each b;
        all = l ∙ n ∙ m ∙ g.all ∙ ap (λ (x : Opening). length x.board.state.seats) (sym first);
      }

  pub closed_first : (k : Kind V) (r : Recorder A D) (o : Opening) (ts : List (Ticket A D)) (ws : List (Waiting V A D)) (us : List (Sharer V A D)) → Begins k r o ts ws
      → Both (Stays r) (dealt ts ws) us → first_by (tickets_of us) ≡ o
  closed_first k r o ts ws us g b = first_back r o ts ws us g.some g.count g.each b

  -- ---- one mind went through the turns of its agent

  pub record LedAt (k : Kind V) (r : Recorder A D) (o : Opening) (n i : ℕ) (ws : List (Waiting V A D)) (us : List (Sharer V A D)) (Q : Ticket A D → Type 0) : Type 0 where
    pub mind : V
    pub thought : Option Thought
    pub now : Sharer V A D
    pub mind_is : slice_get (map mind_in ws) i ≡ Some mind
    pub thought_is : slice_get (map thought_in ws) i ≡ Some thought
    pub mind_comes : slice_get (minds_of us) i ≡ Some now.mind
    pub thought_comes : slice_get (thoughts_of us) i ≡ Some now.thought
    pub follows : Follows k (record { mind = mind; thought = thought }) (turns_of now.ticket) (thinking_of now)
    pub number : now.ticket.number ≡ n + i
    pub first : first_of now.ticket ≡ o
    pub gone : is_gone (phase_of now.ticket) ≡ true
    pub has : Q now.ticket

  led_at : (k : Kind V) (r : Recorder A D) (o : Opening) (n i : ℕ) (ts : List (Ticket A D)) (ws : List (Waiting V A D)) (us : List (Sharer V A D))
      (Q : Ticket A D → Type 0) → length ws ≡ length ts → Row (IsNew r o) n ts → Both (Led k r) (dealt ts ws) us → here_of us ≡ 0 → Each Q (tickets_of us)
      → i < length ts → LedAt k r o n i ws us Q
  led_at k r o n i [] ws us Q e h b z q l = absurd (omega arith)
  led_at k r o n i (t ∷ ts) [] us Q e h b z q l = absurd (omega arith)
  led_at k r o n i (t ∷ ts) (w ∷ ws) [] Q e h b z q l = absurd b
  led_at k r o n zero (t ∷ ts) (w ∷ ws) (u ∷ us) Q e h b z q l =
      let turns : turns_of u.ticket ≡ b.0.way.more = b.0.way.turns ∙ ap (λ (x : List Turn). x ++ b.0.way.more) h.0.silent in
      record {
        mind = w.mind;
        thought = w.thought;
        now = u;
        mind_is = refl;
        thought_is = refl;
        mind_comes = refl;
        thought_comes = refl;
        follows = subst (λ (x : List Turn). Follows k (record { mind = w.mind; thought = w.thought }) x (thinking_of u)) (sym turns) b.0.way.follows;
        number = b.0.stays.agent ∙ h.0.number ∙ (omega arith);
        first = b.0.stays.first ∙ h.0.first;
        gone = (gone_or (is_gone (phase_of u.ticket)) (here_of us) z).0;
        has = q.0;
      }
  led_at k r o n (suc i) (t ∷ ts) (w ∷ ws) (u ∷ us) Q e h b z q l =
      let a = led_at k r o (suc n) i ts ws us Q (omega arith) h.1 b.1 (gone_or (is_gone (phase_of u.ticket)) (here_of us) z).1 q.1 (omega arith) in
      record {
        mind = a.mind;
        thought = a.thought;
        now = a.now;
        mind_is = a.mind_is;
        thought_is = a.thought_is;
        mind_comes = a.mind_comes;
        thought_comes = a.thought_comes;
        follows = a.follows;
        number = a.number ∙ (omega arith);
        first = a.first;
        gone = a.gone;
        has = a.has;
      }

-- ---- the run

module _ {V : Type 0} (k : Kind V) where
  follows_at : (o q : Option V) (t u : Option (Option Thought)) (turns : List Turn) (m n : V) (x y : Option Thought) → o ≡ Some m → t ≡ Some x → q ≡ Some n → u ≡ Some y
      → Follows k (record { mind = m; thought = x }) turns (record { mind = n; thought = y }) → FollowsAt k o t turns q u
  follows_at o q t u turns m n x y a b c d f =
      subst (λ (z : Option V × Option (Option Thought) × Option V × Option (Option Thought)). FollowsAt k z.0 z.1 turns z.2 z.3) (λ i. (sym a i, sym b i, sym c i, sym d i)) f

module _ {V A D : Type 0} (k : Kind V) (r : Recorder A D) (o : Opening) (ts : List (Ticket A D)) (ws : List (Waiting V A D)) (us : List (Sharer V A D)) (x : Deck A D)
    (state : D → DiskState) (g : Begins k r o ts ws) (b : AllEnded k r (dealt ts ws) us) (s : Both (Stays r) (dealt ts ws) us) (c : Closed state (tickets_of us) x) where
  abbrev first_is : first_by (tickets_of us) ≡ o
  first_is = closed_first k r o ts ws us g s

  abbrev plays : Plays o.board.state c.log x.board.state
  plays = subst (λ (f : Opening). Plays f.board.state c.log x.board.state) first_is c.plays

  wide : length us ≡ length o.board.state.seats
  wide = both_length (Stays r) (dealt ts ws) us s ∙ dealt_length ts ws g.count ∙ g.all

  at : (i : ℕ) → i < length o.board.state.seats → LedAt k r o 1 i ws us (λ t. of t.number c.log ≡ turns_of t)
  at i l = led_at k r o 1 i ts ws us (λ t. of t.number c.log ≡ turns_of t) g.count g.each b.each b.none_here c.turns (let n = g.all in omega arith)

  mine : (i : ℕ) (l : i < length o.board.state.seats) → of (suc i) c.log ≡ turns_of (at i l).now.ticket
  mine i l =
      let a = at i l in
      ap (λ (n : ℕ). of n c.log) (sym (a.number ∙ (let z : 1 + i ≡ suc i = omega arith in z))) ∙ a.has

  -- every seat is left
  gone_at : (i : ℕ) → i < length x.board.state.seats → is_gone (seat_or_none (slice_get x.board.state.seats i)).phase ≡ true
  gone_at i l =
      let kept = plays_kept o.board.state c.log x.board.state plays in
      let within : i < length o.board.state.seats = (let n = kept.seats in omega arith) in
      let a = at i within in
      let agent : IsAgent (length o.board.state.seats) (suc i) = record { from_one = omega arith; named = omega arith } in
      let stands = plays_stands o.board.state c.log x.board.state (suc i) agent plays in
      let number : suc i ≡ a.now.ticket.number = sym (a.number ∙ (let z : 1 + i ≡ suc i = omega arith in z)) in
      let phase : (seat_at x.board.state (suc i)).phase ≡ phase_of a.now.ticket =
      stands.phase_is ∙ (λ j. phase_after (seat_at (sym a.first j).board.state (number j)).phase (mine i within j)) in
      let here : suc i - 1 ≡ i = omega arith in
      subst (λ (n : ℕ). is_gone (seat_or_none (slice_get x.board.state.seats n)).phase ≡ true) here (ap is_gone phase ∙ a.gone)

  abbrev start : Platform V
  start = record { board = o.board.state; minds = map mind_in ws; thoughts = map thought_in ws }

  abbrev end : Platform V
  end = record { board = x.board.state; minds = minds_of us; thoughts = thoughts_of us }

  all_follow : AllFollow k start c.log end
  all_follow = record {
    minds = length_map mind_in ws ∙ g.count ∙ g.all;
    thoughts = length_map thought_in ws ∙ g.count ∙ g.all;
    minds_after = length_map (λ (u : Sharer V A D). u.mind) us ∙ wide;
    thoughts_after = length_map (λ (u : Sharer V A D). u.thought) us ∙ wide;
    each = λ a agent.
        (let low = agent.from_one in
        let high = agent.named in
        let l : a - 1 < length o.board.state.seats = omega arith in
        let f = at (a - 1) l in
        let here : suc (a - 1) ≡ a = omega arith in
        follows_at k _ _ _ _ (of a c.log) f.mind f.now.mind f.thought f.now.thought f.mind_is f.thought_is f.mind_comes f.thought_comes
        (subst (λ (t : List Turn). Follows k (record { mind = f.mind; thought = f.thought }) t (thinking_of f.now)) (sym (ap (λ (n : ℕ). of n c.log) (sym here) ∙ mine (a - 1) l)) f.follows));
  }

  -- board and minds are those of the run from where the tickets were opened
  pub ran_on : RanOn k o.board (map mind_in ws) (map thought_in ws) x.board (minds_of us)
  ran_on = record {
    more = names c.log;
    left = thoughts_of us;
    schedule = sym (subst (λ (f : Opening). f.board.schedule ++ names c.log ≡ x.board.schedule) first_is c.scheduled);
    ran = runs k start end c.log plays all_follow;
    ended = gone_all x.board.state.seats gone_at;
  }

-- ---- the beginning

module _ {V A D : Type 0} (k : Kind V) (r : Recorder A D) (o : Opening) where
  -- the phase, the mind and the thought of one agent fit
  shares_one : (n : ℕ) (t : Ticket A D) (w : Waiting V A D) → o.board.state.cycles ≤ 1000000 → IsNew r o n t
      → MindFits k (length o.board.state.seats) n (seat_at o.board.state n) w.mind w.thought → Shares k r (sharer_of t w)
  shares_one n t w limit new fits =
      let seat : seat_at (first_of t).board.state t.number ≡ seat_at o.board.state n = λ i. seat_at (new.first i).board.state (new.number i) in
      let agents : agents_of t ≡ length o.board.state.seats = ap (λ (f : Opening). length f.board.state.seats) new.first in
      let phase : phase_of t ≡ (seat_at o.board.state n).phase = λ i. phase_after (seat i).phase (new.silent i) in
      record {
        ticket = new.ticket;
        belongs = record {
          right = refl;
          me = fits.me ∙ sym new.number;
          agents = fits.agents_are ∙ sym agents;
          limit = subst (λ (f : Opening). f.board.state.cycles ≤ 1000000) (sym new.first) limit;
        };
        made = fits.made ∙ ap (λ (p : board.AgentPlace). p.cycle) (sym seat) ∙ (let z = ap cycles_in new.silent in omega arith);
        thought = subst (λ (z : ℕ × ℕ × Phase). ThoughtFits k z.0 z.1 z.2 w.mind w.thought) (λ i. (sym agents i, sym new.number i, sym phase i)) fits.thought;
      }

  fits_of : (agents n : ℕ) (seat : board.AgentPlace) (m : V) (t : Option Thought) → FitsAt k agents n seat (Some m) (Some t) → MindFits k agents n seat m t
  fits_of agents n seat m t h = h

  shares_from : (n : ℕ) (ts : List (Ticket A D)) (ws : List (Waiting V A D)) → o.board.state.cycles ≤ 1000000 → Row (IsNew r o) n ts → length ws ≡ length ts
      → ((i : ℕ) → i < length ws →
      FitsAt k (length o.board.state.seats) (n + i) (seat_at o.board.state (n + i)) (slice_get (map mind_in ws) i) (slice_get (map thought_in ws) i))
      → Each (Shares k r) (dealt ts ws)
  shares_from n [] ws limit h e f = tt
  shares_from n (t ∷ ts) [] limit h e f = absurd (omega arith)
  shares_from n (t ∷ ts) (w ∷ ws) limit h e f = (
    shares_one n t w limit h.0
        (fits_of (length o.board.state.seats) n (seat_at o.board.state n) w.mind w.thought
        (subst (λ (a : ℕ). FitsAt k (length o.board.state.seats) a (seat_at o.board.state a) (Some w.mind) (Some w.thought)) (let z : n + 0 ≡ n = omega arith in z) (f 0 (omega arith)))),
    shares_from (suc n) ts ws limit h.1 (omega arith)
        (λ i l. subst (λ (a : ℕ). FitsAt k (length o.board.state.seats) a (seat_at o.board.state a) (slice_get (map mind_in ws) i) (slice_get (map thought_in ws) i))
        (let z : n + suc i ≡ suc n + i = omega arith in z) (f (suc i) (omega arith))),
  )

when_ok : (r : Result (Unit {0}) DeckFault) (P Q : Type 0) → (P → Q) → OnOk r P → OnOk r Q
when_ok (Ok u) P Q f h = f h
when_ok (Err e) P Q f h = tt

-- how it stood at the opening
pub first_opened : {A D : Type 0} (state : D → DiskState) (x : Deck A D) (r : Recorder A D) (ts : List (Ticket A D)) → IsSound x.board.state → Opened state x r ts
    → first_by ts ≡ opening state x
first_opened state x r ts sound h = first_new r (opening state x) ts (let z = sound.limits.some in let n = h.count in omega arith) h.each

module _ {V A D : Type 0} (k : Kind V) where
  -- the tickets of a board, and the minds and thoughts that fit it
  pub begins : (r : Recorder A D) (o : Opening) (ts : List (Ticket A D)) (ws : List (Waiting V A D)) (minds : List V) (thoughts : List (Option Thought))
      → IsSound o.board.state → AllFit k o.board.state.seats minds thoughts → map mind_in ws ≡ minds → map thought_in ws ≡ thoughts
      → length ts ≡ length o.board.state.seats → Row (IsNew r o) 1 ts → Begins k r o ts ws
  begins r o ts ws minds thoughts sound fit m t n new =
      let count : length ws ≡ length o.board.state.seats = sym (length_map mind_in ws) ∙ ap length m ∙ fit.minds_are in
      record {
        some = (let z = sound.limits.some in omega arith);
        all = n;
        count = count ∙ sym n;
        each = new;
        shares = shares_from k r o 1 ts ws sound.limits.short new (count ∙ sym n)
            (λ i l.
            (let agent : IsAgent (length o.board.state.seats) (1 + i) = record { from_one = omega arith; named = omega arith } in
            let here : 1 + i - 1 ≡ i = omega arith in
            subst (λ (z : Option V × Option (Option Thought)). FitsAt k (length o.board.state.seats) (1 + i) (seat_at o.board.state (1 + i)) z.0 z.1)
            (λ j. ((ap (slice_get minds) here ∙ ap (λ (x : List V). slice_get x i) (sym m)) j, (ap (slice_get thoughts) here ∙ ap (λ (x : List (Option Thought)). slice_get x i) (sym t)) j))
            (fit.each (1 + i) agent)));
      }

  -- ---- the close

  pub has_played : (r : Recorder A D) (o : Opening) (ts : List (Ticket A D)) (ws : List (Waiting V A D)) (us : List (Sharer V A D)) (x : Deck A D)
      (state : D → DiskState) (came : Result (Unit {0}) DeckFault) → Begins k r o ts ws → OnOk came (AllEnded k r (dealt ts ws) us)
      → Both (Stays r) (dealt ts ws) us → Closed state (tickets_of us) x → HasPlayed k state o ws x (minds_of us) came
  has_played r o ts ws us x state came g b s c = record {
    kept = subst (λ (f : Opening). IsKept state f x) (closed_first k r o ts ws us g s) c.kept;
    ran = when_ok came (AllEnded k r (dealt ts ws) us) (RanOn k o.board (map mind_in ws) (map thought_in ws) x.board (minds_of us))
        (λ e. ran_on k r o ts ws us x state g e s c) b;
  }

  -- ---- as the calls need it

  pub room_for_all : (ts : List (Ticket A D)) (ws : List (Waiting V A D)) (r : Recorder A D) (old us : List (Sharer V A D)) {T : Type 0} (room : WithSpare T)
      → length ws ≡ length ts → old ≡ dealt ts ws → Both (Stays r) old us → HasRoom (length ts) room → HasRoom (length us) room
  room_for_all ts ws r old us room e d b h = record {
    empty = h.empty;
    room_for = (let a = both_length (Stays r) old us b in let f = ap length d ∙ dealt_length ts ws e in let g = h.room_for in omega arith);
  }

  pub begins_opened : (state : D → DiskState) (x : Deck A D) (r : Recorder A D) (ts : List (Ticket A D)) (ws : List (Waiting V A D)) (minds : List V)
      (thoughts : List (Option Thought)) → IsSound x.board.state → AllFit k x.board.state.seats minds thoughts → AreWaiting minds thoughts ws → Opened state x r ts
      → Begins k r (first_by ts) ts ws
  begins_opened state x r ts ws minds thoughts sound fit w h =
      subst (λ (o : Opening). Begins k r o ts ws) (sym (first_opened state x r ts sound h))
      (begins r (opening state x) ts ws minds thoughts sound fit w.minds_are w.thoughts_are h.count h.each)

  pub rooms_opened : (state : D → DiskState) (x : Deck A D) (r : Recorder A D) (ts : List (Ticket A D)) (minds : List V) (thoughts : List (Option Thought))
      (rooms : Rooms V A D) → AllFit k x.board.state.seats minds thoughts → Opened state x r ts → AreRooms (length minds) rooms → AreRooms (length ts) rooms
  rooms_opened state x r ts minds thoughts rooms fit h a = subst (λ (n : ℕ). AreRooms n rooms) (fit.minds_are ∙ sym h.count) a
