-- Where agents stand after the turns of a log.
use Rattle.std.proofs.Common.{◌≡◌, ◌≢◌, ℕ, ◌+◌, ◌-◌, Bool, true, false, nat_eq, cond, Some, is_some, List, [], ◌∷◌, length, slice_get, slice_set, sym, refl, ap, ◌∙◌, subst, arith, eq-eqb, ne_eqb}
use Rattle.std.proofs.lemmas.Bool.Decides.{nat_tests}
use mathlib.Core.Logic.{dite}
use native.Mathlib.Decide.{ℕ_discrete}
use Rattle.mas_mind.specs.Minds.{IsAgent}
use Rattle.mas_board.specs.declared.seats.AgentPlace.{AgentPlace}
use Rattle.mas_board.specs.declared.seats.Phase.{Phase}
use Rattle.mas_board.specs.Boards.{State, seat_at, seat_of, seat_or_none}
use Rattle.mas_board.proofs.Places.{get_set, same_place, below}
use Rattle.mas_board_turns.specs.declared.turn.Turn.{Turn}
use Rattle.mas_board_turns.specs.Turns.{Entry, Plays, of, phase_of, phase_after, cycle_of, cycles_in, mark_of, mark_after}
use Rattle.mas_board_turns.proofs.Moves.{Moved, moved, moved_seats}

-- what the turns keep
pub record Kept (s t : State) : Type 0 where
  pub seats : length t.seats ≡ length s.seats
  pub names : t.names ≡ s.names
  pub cycles : t.cycles ≡ s.cycles
  pub lead : t.lead ≡ s.lead

pub plays_kept : (s : State) (log : List Entry) (t : State) → Plays s log t → Kept s t
plays_kept s [] t h = record {
  seats = ap (λ (x : State). length x.seats) (sym h);
  names = ap (λ (x : State). x.names) (sym h);
  cycles = ap (λ (x : State). x.cycles) (sym h);
  lead = ap (λ (x : State). x.lead) (sym h);
}
plays_kept s (e ∷ log) t h =
    let m = moved s h.0 e.by e.turn h.1 in
    let r = plays_kept h.0 log t h.2 in
    record {
      seats = r.seats ∙ moved_seats s h.0 e.by e.turn h.1;
      names = r.names ∙ m.names;
      cycles = r.cycles ∙ m.cycles;
      lead = r.lead ∙ m.lead;
    }

same_seat : (seats : List AgentPlace) (a : ℕ) (x : AgentPlace) → IsAgent (length seats) a → seat_of (slice_set seats (a - 1) x) a ≡ x
same_seat seats a x k =
    let e : nat_eq (a - 1) (a - 1) ≡ true = grind (arith, nat_tests) in
    ap seat_or_none (get_set seats (a - 1) (a - 1) x (below (length seats) a k)) ∙ ap (λ (b : Bool). seat_or_none (cond b (Some x) (slice_get seats (a - 1)))) e

apart : (n a c : ℕ) (b : Bool) → IsAgent n a → IsAgent n c → a ≢ c → nat_eq (a - 1) (c - 1) ≡ b → b ≡ false
apart n a c true k j d e = absurd (d (same_place n a c k j e))
apart n a c false k j d e = refl

other_seat : (seats : List AgentPlace) (a c : ℕ) (x : AgentPlace) → IsAgent (length seats) a → IsAgent (length seats) c → a ≢ c → seat_of (slice_set seats (a - 1) x) c ≡ seat_of seats c
other_seat seats a c x k j d =
    ap seat_or_none (get_set seats (a - 1) (c - 1) x (below (length seats) a k))
    ∙ ap (λ (b : Bool). seat_or_none (cond b (Some x) (slice_get seats (c - 1)))) (apart (length seats) a c (nat_eq (a - 1) (c - 1)) k j d refl)

-- the agent stands so
pub record Stood (t : State) (c : ℕ) (phase : Phase) (cycle : ℕ) (marked : Bool) : Type 0 where
  pub phase_is : (seat_at t c).phase ≡ phase
  pub cycle_is : (seat_at t c).cycle ≡ cycle
  pub mark_is : is_some (seat_at t c).mark ≡ marked

after_same : (s t : State) (a : ℕ) (turn : Turn) → Moved s a turn t → Stood t a (phase_of turn) ((seat_at s a).cycle + cycle_of turn) (mark_of (is_some (seat_at s a).mark) turn)
after_same s t a turn m =
    let e : seat_at t a ≡ m.seat = ap (λ (l : List AgentPlace). seat_of l a) m.seats ∙ same_seat s.seats a m.seat m.agent in
    record {
      phase_is = ap (λ (x : AgentPlace). x.phase) e ∙ m.phase;
      cycle_is = ap (λ (x : AgentPlace). x.cycle) e ∙ m.cycle;
      mark_is = ap (λ (x : AgentPlace). is_some x.mark) e ∙ m.mark;
    }

after_other : (s t : State) (a c : ℕ) (turn : Turn) → IsAgent (length s.seats) c → a ≢ c → Moved s a turn t → seat_at t c ≡ seat_at s c
after_other s t a c turn k d m = ap (λ (l : List AgentPlace). seat_of l c) m.seats ∙ other_seat s.seats a c m.seat m.agent k d

taken_in : (b : Bool) (phase : Phase) (turn : Turn) (turns : List Turn) → b ≡ true → phase_after (phase_of turn) turns ≡ phase_after phase (cond b (turn ∷ turns) turns)
taken_in true phase turn turns e = refl
taken_in false phase turn turns e = cc

left_out : (b : Bool) (phase : Phase) (turn : Turn) (turns : List Turn) → b ≡ false → phase_after phase turns ≡ phase_after phase (cond b (turn ∷ turns) turns)
left_out true phase turn turns e = cc
left_out false phase turn turns e = refl

marked_in : (b was : Bool) (turn : Turn) (turns : List Turn) → b ≡ true → mark_after (mark_of was turn) turns ≡ mark_after was (cond b (turn ∷ turns) turns)
marked_in true was turn turns e = refl
marked_in false was turn turns e = cc

marked_out : (b was : Bool) (turn : Turn) (turns : List Turn) → b ≡ false → mark_after was turns ≡ mark_after was (cond b (turn ∷ turns) turns)
marked_out true was turn turns e = cc
marked_out false was turn turns e = refl

counted_in : (b : Bool) (turn : Turn) (turns : List Turn) → b ≡ true → cycle_of turn + cycles_in turns ≡ cycles_in (cond b (turn ∷ turns) turns)
counted_in true turn turns e = refl
counted_in false turn turns e = cc

counted_out : (b : Bool) (turn : Turn) (turns : List Turn) → b ≡ false → cycles_in turns ≡ cycles_in (cond b (turn ∷ turns) turns)
counted_out true turn turns e = cc
counted_out false turn turns e = refl

-- an agent stands where its turns have led it
pub plays_stands : (s : State) (log : List Entry) (t : State) (c : ℕ) → IsAgent (length s.seats) c → Plays s log t →
    Stood t c (phase_after (seat_at s c).phase (of c log)) ((seat_at s c).cycle + cycles_in (of c log)) (mark_after (is_some (seat_at s c).mark) (of c log))
plays_stands s [] t c k h = let e : seat_at t c ≡ seat_at s c = ap (λ (x : State). seat_at x c) (sym h) in
    record { phase_is = ap (λ (x : AgentPlace). x.phase) e; cycle_is = (let z = ap (λ (x : AgentPlace). x.cycle) e in omega arith); mark_is = ap (λ (x : AgentPlace). is_some x.mark) e }
plays_stands s (e ∷ log) t c k h = dite (ℕ_discrete e.by c)
    (λ i.
    let m = moved s h.0 e.by e.turn h.1 in
    let j : IsAgent (length h.0.seats) c = subst (λ (n : ℕ). IsAgent n c) (sym (moved_seats s h.0 e.by e.turn h.1)) k in
    let r = plays_stands h.0 log t c j h.2 in
    let q = subst (λ (a : ℕ). Stood h.0 a (phase_of e.turn) ((seat_at s a).cycle + cycle_of e.turn) (mark_of (is_some (seat_at s a).mark) e.turn)) i (after_same s h.0 e.by e.turn m) in
    let y = eq-eqb e.by c i in
    record {
      phase_is = r.phase_is ∙ ap (λ (p : Phase). phase_after p (of c log)) q.phase_is ∙ taken_in (nat_eq e.by c) (seat_at s c).phase e.turn (of c log) y;
      cycle_is = (let u = r.cycle_is in let v = q.cycle_is in let w = counted_in (nat_eq e.by c) e.turn (of c log) y in omega arith);
      mark_is = r.mark_is ∙ ap (λ (b : Bool). mark_after b (of c log)) q.mark_is ∙ marked_in (nat_eq e.by c) (is_some (seat_at s c).mark) e.turn (of c log) y;
    })
    (λ n.
    let m = moved s h.0 e.by e.turn h.1 in
    let j : IsAgent (length h.0.seats) c = subst (λ (n : ℕ). IsAgent n c) (sym (moved_seats s h.0 e.by e.turn h.1)) k in
    let r = plays_stands h.0 log t c j h.2 in
    let q = after_other s h.0 e.by c e.turn k n m in
    let y = ne_eqb e.by c n in
    record {
      phase_is = r.phase_is ∙ ap (λ (x : AgentPlace). phase_after x.phase (of c log)) q ∙ left_out (nat_eq e.by c) (seat_at s c).phase e.turn (of c log) y;
      cycle_is = (let u = r.cycle_is in let v = ap (λ (x : AgentPlace). x.cycle) q in let w = counted_out (nat_eq e.by c) e.turn (of c log) y in omega arith);
      mark_is = r.mark_is ∙ ap (λ (x : AgentPlace). mark_after (is_some x.mark) (of c log)) q ∙ marked_out (nat_eq e.by c) (is_some (seat_at s c).mark) e.turn (of c log) y;
    })
