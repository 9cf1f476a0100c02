-- What one turn makes of the board.
use Rattle.std.proofs.Common.{◌≡◌, ℕ, ◌+◌, ◌-◌, Bool, true, false, Option, None, Some, is_some, length, slice_set, sym, refl, ap, ◌∙◌, arith, if◌then◌else◌}
use Rattle.std.proofs.lemmas.List.{length-set}
use Rattle.mas_mind.specs.declared.mind.End.{End}
use Rattle.mas_mind.specs.declared.mind.End.TheVariants.{Quiet, Stopped, Cycles, Budget}
use Rattle.mas_mind.specs.declared.mind.Input.{Input}
use Rattle.mas_mind.specs.declared.mind.Outs.{Outs}
use Rattle.mas_mind.specs.declared.mind.Feedback.{Feedback}
use Rattle.mas_mind.specs.Minds.{IsAgent}
use Rattle.mas_board.specs.declared.seats.Phase.TheVariants.{Busy, Left as Away}
use Rattle.mas_board.specs.declared.seats.AgentPlace.{AgentPlace}
use Rattle.mas_board.specs.declared.seats.Sensed.{Sensed}
use Rattle.mas_board.specs.declared.seats.Sensed.TheVariants as answer
use Rattle.mas_board.specs.Boards.{State, seat_at, is_at_limit, all_quiet, is_ahead, left_by, left_cycles, left_stopped, left_quiet, ahead, given, begun, sense, rested, emit}
use Rattle.mas_board_turns.specs.declared.turn.Turn.{Turn}
use Rattle.mas_board_turns.specs.declared.turn.Turn.TheVariants.{Sensed as Got, Left, Emitted, Gone}
use Rattle.mas_board_turns.specs.Turns.{Makes, phase_of, cycle_of, mark_of}

-- ---- a Sense

pub data SensedAs (s : State) (a : ℕ) (r : Sensed × State) : Type 0 where
  Goes : (e : End) → r ≡ (answer.Left e, left_by s a e) → SensedAs s a r
  Waits : r ≡ ahead s a → SensedAs s a r
  Takes : r ≡ given s a → SensedAs s a r

sensed_by : (s : State) (a : ℕ) (x y z w : Bool) →
    SensedAs s a (if x then left_cycles s a else if y then left_stopped s a else if z then left_quiet s a else if w then ahead s a else given s a)
sensed_by s a true y z w = Goes Cycles refl
sensed_by s a false true z w = Goes Stopped refl
sensed_by s a false false true w = Goes Quiet refl
sensed_by s a false false false true = Waits refl
sensed_by s a false false false false = Takes refl

pub sensed : (s : State) (a : ℕ) → SensedAs s a (sense s a)
sensed s a = sensed_by s a (is_at_limit s a) s.stop (all_quiet s) (is_ahead s a)

answer_of : (x y : Sensed) (s t : State) → ◌≡◌ {A = Sensed × State} (x, s) (y, t) → x ≡ y
answer_of x y s t e = ap (λ (p : Sensed × State). p.0) e

input_by : (s t : State) (a : ℕ) (i : Input) (r : Sensed × State) → SensedAs s a r → (answer.Input i, t) ≡ r → t ≡ begun s a
input_by s t a i r (Goes e d) h = let x = answer_of _ _ _ _ (h ∙ d) in cc
input_by s t a i r (Waits d) h = let x = answer_of _ _ _ _ (h ∙ d) in cc
input_by s t a i r (Takes d) h = ap (λ (p : Sensed × State). p.1) (h ∙ d)

same_end : (e f : End) → answer.Left e ≡ answer.Left f → e ≡ f
same_end e f h = cc

left_by_it : (s t : State) (a : ℕ) (e : End) (r : Sensed × State) → SensedAs s a r → (answer.Left e, t) ≡ r → t ≡ left_by s a e
left_by_it s t a e r (Goes f d) h = ap (λ (p : Sensed × State). p.1) (h ∙ d) ∙ ap (left_by s a) (sym (same_end e f (answer_of _ _ _ _ (h ∙ d))))
left_by_it s t a e r (Waits d) h = let x = answer_of _ _ _ _ (h ∙ d) in cc
left_by_it s t a e r (Takes d) h = let x = answer_of _ _ _ _ (h ∙ d) in cc

pub given_input : (s t : State) (a : ℕ) (i : Input) → (answer.Input i, t) ≡ sense s a → t ≡ begun s a
given_input s t a i h = input_by s t a i (sense s a) (sensed s a) h

pub left_with : (s t : State) (a : ℕ) (e : End) → (answer.Left e, t) ≡ sense s a → t ≡ left_by s a e
left_with s t a e h = left_by_it s t a e (sense s a) (sensed s a) h

-- ---- every turn

-- what a turn changes and keeps
pub record Moved (s : State) (a : ℕ) (turn : Turn) (t : State) : Type 0 where
  pub seat : AgentPlace
  pub seats : t.seats ≡ slice_set s.seats (a - 1) seat
  pub phase : seat.phase ≡ phase_of turn
  pub cycle : seat.cycle ≡ (seat_at s a).cycle + cycle_of turn
  pub mark : is_some seat.mark ≡ mark_of (is_some (seat_at s a).mark) turn
  pub agent : IsAgent (length s.seats) a
  pub names : t.names ≡ s.names
  pub cycles : t.cycles ≡ s.cycles
  pub lead : t.lead ≡ s.lead

goes_off : (s t : State) (a : ℕ) (e : End) (turn : Turn) → IsAgent (length s.seats) a → phase_of turn ≡ Away e → cycle_of turn ≡ 0 → ((was : Bool) → mark_of was turn ≡ was)
    → t ≡ left_by s a e → Moved s a turn t
goes_off s t a e turn k p c w h = record {
  seat = record (seat_at s a) { phase = Away e };
  seats = ap (λ (x : State). x.seats) h;
  phase = sym p;
  cycle = omega arith;
  mark = sym (w (is_some (seat_at s a).mark));
  agent = k;
  names = ap (λ (x : State). x.names) h;
  cycles = ap (λ (x : State). x.cycles) h;
  lead = ap (λ (x : State). x.lead) h;
}

begins : (s t : State) (a : ℕ) (i : Input) → IsAgent (length s.seats) a → t ≡ begun s a → Moved s a (Got i) t
begins s t a i k h = record {
  seat = record { phase = Busy; cycle = (seat_at s a).cycle + 1; mark = None; kept = s.version };
  seats = ap (λ (x : State). x.seats) h;
  phase = refl;
  cycle = refl;
  mark = refl;
  agent = k;
  names = ap (λ (x : State). x.names) h;
  cycles = ap (λ (x : State). x.cycles) h;
  lead = ap (λ (x : State). x.lead) h;
}

is_marked : (quiet : Bool) (kept : ℕ) → is_some (if quiet then Some kept else None) ≡ quiet
is_marked true kept = refl
is_marked false kept = refl

emits : (s t : State) (a : ℕ) (o : Outs) (f : Option Feedback) → IsAgent (length s.seats) a → (f, t) ≡ emit s a o → Moved s a (Emitted o f) t
emits s t a o f k e = let h : t ≡ (emit s a o).1 = ap (λ (p : Option Feedback × State). p.1) e in record {
  seat = rested (seat_at s a) o.quiet;
  seats = ap (λ (x : State). x.seats) h;
  phase = refl;
  cycle = omega arith;
  mark = is_marked o.quiet (seat_at s a).kept;
  agent = k;
  names = ap (λ (x : State). x.names) h;
  cycles = ap (λ (x : State). x.cycles) h;
  lead = ap (λ (x : State). x.lead) h;
}

pub moved : (s t : State) (a : ℕ) (turn : Turn) → Makes s a turn t → Moved s a turn t
moved s t a (Got i) h = begins s t a i h.0.agent (given_input s t a i h.1)
moved s t a (Left e) h = goes_off s t a e (Left e) h.0.agent refl refl (λ was. refl) (left_with s t a e h.1)
moved s t a (Emitted o f) h = emits s t a o f h.0.agent h.1
moved s t a Gone h = goes_off s t a Budget Gone h.0.agent refl refl (λ was. refl) h.1

pub moved_seats : (s t : State) (a : ℕ) (turn : Turn) → Makes s a turn t → length t.seats ≡ length s.seats
moved_seats s t a turn h = let m = moved s t a turn h in ap length m.seats ∙ length-set s.seats (a - 1) m.seat
