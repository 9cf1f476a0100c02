-- The agents at the opening.
use Rattle.std.proofs.Common.{◌≡◌, ℕ, zero, suc, ◌+◌, ◌-◌, ◌<◌, ◌≤◌, Bool, true, false, Option, Some, None, List, [], ◌∷◌, length, replicate, IfSome, slice_get, sym, refl, ap, ◌∙◌, subst, arith}
use Rattle.mas_mind.specs.Minds.{Kind, IsAgent}
use Rattle.mas_board.specs.declared.seats.Phase.{Phase}
use Rattle.mas_board.specs.declared.seats.Phase.TheVariants.{Idle, Busy}
use Rattle.mas_board.specs.declared.seats.AgentPlace as board
use Rattle.mas_board.specs.Boards.{State, Noted, seat_of, seat_at, seat_or_none, no_seat}
use Rattle.mas_board.specs.Seating.{IsSound, Opens}
use Rattle.mas_board_turns.specs.declared.turn.Turn.{Turn}
use Rattle.mas_board_turns.specs.Turns.{phase_after, cycles_in}
use Rattle.mas_board_turns.specs.Follows.{resting, Follows}
use Rattle.mas_core.specs.Fits.{Start, IsMindOf, AreMindsOf}
use Rattle.mas_baton.specs.declared.baton.Baton.{Baton}
use Rattle.mas_baton.specs.declared.seat.Seat.{Seat}
use Rattle.mas_baton.specs.Seats.{turns_of, IsSeatOf, IsNew, Opened}
use Rattle.mas_board_lists.specs.Lists.{Each, Row, numbers_from}
use Rattle.mas_pool_ready.specs.Rule.{numbers}
use Rattle.mas_pool_task.specs.declared.going.Going.{Going}
use Rattle.mas_pool_task.specs.Goings.{Became}
use Rattle.mas_pool.specs.Workers.{number_of, AreAt}
use Rattle.mas_pool.specs.Dealing.{dealt_one, dealt}
use Rattle.mas_pool.specs.Ends.{AreSeated}
use Rattle.mas_pool.proofs.Whole.{length_dealt}

no_seat_at : (n i : ℕ) → seat_or_none (slice_get (replicate n no_seat) i) ≡ no_seat
no_seat_at zero i = refl
no_seat_at (suc n) zero = refl
no_seat_at (suc n) (suc i) = no_seat_at n i

pub seats_none : (b : Noted) (a : ℕ) → b.schedule ≡ [] → Opens b → seat_at b.state a ≡ no_seat
seats_none b a e o = ap (λ (s : State). seat_at s a) (o e) ∙ no_seat_at (length b.state.names) (a - 1)

false_where : (x : Bool) → (x ≡ true → Idle ≡ Busy) → x ≡ false
false_where true f = let d = f refl in cc
false_where false f = refl

module _ {V : Type 0} where
  -- a mind at each place from n on
  minds_row : (P : ℕ → V → Type 0) (n : ℕ) (ms : List V) → ((i : ℕ) → i < length ms → IfSome (slice_get ms i) (P (n + i))) → Row P n ms
  minds_row P n [] h = tt
  minds_row P n (m ∷ ms) h = (
    subst (λ (a : ℕ). P a m) (let z : n + 0 ≡ n = omega arith in z) (h 0 (omega arith)),
    minds_row P (suc n) ms (λ i l. subst (λ (a : ℕ). IfSome (slice_get ms i) (P a)) (let z : n + suc i ≡ suc n + i = omega arith in z) (h (suc i) (omega arith))),
  )

module _ {V A : Type 0} (k : Kind V) where
  became_first : (b : Baton A) (start : Noted) (n : ℕ) (s : Seat A) (m : V) → IsSound start.state → seat_at start.state n ≡ no_seat → IsNew b start n s → IsMindOf k start.state n m → Became k (dealt_one (s, m)) (dealt_one (s, m))
  became_first b start n s m sound none new mind =
      let phase = ap (λ (x : board.AgentPlace). x.phase) none in
      let made : k.made m ≡ 0 = mind.made ∙ ap (λ (x : board.AgentPlace). x.cycle) none in
      record {
        same = record { number = refl; first = refl; seat = λ c i. i };
        rests = record {
          belongs = record {
            right = refl;
            me = mind.me ∙ sym new.number;
            agents = mind.agents ∙ ap (λ (x : Noted). length x.state.seats) (sym new.first);
            limit = subst (λ (x : Noted). x.state.cycles ≤ 1000000) (sym new.first) sound.limits.short;
          };
          idle = ap (phase_after Idle) new.silent;
          made = made ∙ ap cycles_in (sym new.silent);
          count = sym made;
          awaits = false_where (k.awaits m) (λ e. sym phase ∙ mind.awaits e);
        };
        follows = subst (λ (t : List Turn). Follows k (resting m) t (resting m)) (sym new.silent) refl;
      }

  -- what holds of the agents that were dealt
  pub record Deals (b : Baton A) (n : ℕ) (gs : List (Going V A)) : Type 0 where
    pub numbers_are : numbers number_of gs ≡ numbers_from n (length gs)
    pub begin : Each (λ (g : Going V A). Became k g g) gs
    pub home : AreAt b gs

  dealt_from : (b : Baton A) (start : Noted) (n : ℕ) (ss : List (Seat A)) (ms : List V) → IsSound start.state → ((a : ℕ) → seat_at start.state a ≡ no_seat) → Row (IsNew b start) n ss → Row (IsMindOf k start.state) n ms
      → Deals b n (dealt ss ms)
  dealt_from b start n [] ms sound none r q = record { numbers_are = refl; begin = tt; home = tt }
  dealt_from b start n (s ∷ ss) [] sound none r q = record { numbers_are = refl; begin = tt; home = tt }
  dealt_from b start n (s ∷ ss) (m ∷ ms) sound none r q =
      let d = dealt_from b start (suc n) ss ms sound none r.1 q.1 in
      record {
        numbers_are = λ j. r.0.number j ∷ d.numbers_are j;
        begin = (became_first b start n s m sound (none n) r.0 q.0, d.begin);
        home = (r.0.seat, d.home);
      }

  pub dealt_all : (b : Baton A) (start : Noted) (ss : List (Seat A)) (ms : List V) → IsSound start.state → Opens start → Start k start ms → Opened start b ss → Deals b 1 (dealt ss ms)
  dealt_all b start ss ms sound opens s o =
      let minds = minds_row (IsMindOf k start.state) 1 ms (λ i l.
      (let e : suc i - 1 ≡ i = omega arith in
      let f : suc i ≡ 1 + i = omega arith in
      let n = s.fit.number in
      subst (λ (t : ℕ × ℕ). IfSome (slice_get ms t.0) (IsMindOf k start.state t.1)) (λ j. (e j, f j)) (s.fit.each (suc i) (record { from_one = omega arith; named = omega arith })))) in
      dealt_from b start 1 ss ms sound (λ a. seats_none start a s.unplayed opens) o.each minds

  pub are_seated : (b : Baton A) (start : Noted) (ss : List (Seat A)) (ms : List V) (gs : List (Going V A)) → IsSound start.state → Opens start → Start k start ms → Opened start b ss → gs ≡ dealt ss ms
      → AreSeated k start ms b gs
  are_seated b start ss ms gs sound opens s o e =
      let d = dealt_all b start ss ms sound opens s o in
      let seats = o.count in
      let minds = s.fit.number in
      let agents = sound.limits.some in
      let size = ap length e in
      let wide = length_dealt ss ms (omega arith) in
      let count : length gs ≡ length start.state.seats = omega arith in
      record {
        seats = ss;
        opened = o;
        start = s;
        idle = λ a. ap (λ (x : board.AgentPlace). x.phase) (seats_none start a s.unplayed opens);
        goings_are = e;
        count = count;
        some = omega arith;
        numbers_are = subst (λ (l : List (Going V A)). numbers number_of l ≡ numbers_from 1 (length l)) (sym e) d.numbers_are;
        rest = subst (λ (l : List (Going V A)). Each (λ (g : Going V A). Became k g g) l) (sym e) d.begin;
        home = subst (AreAt b) (sym e) d.home;
      }
