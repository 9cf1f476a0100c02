-- The cases of a turn.
use Rattle.std.proofs.Common.{ℕ, ◌≡◌, ◌-◌, arith, nat_le, Bool, true, false, if◌then◌else◌, slice_get, length, Option, None, Some, refl, ap, sym, ◌∙◌}
use Rattle.std.proofs.lemmas.Grind.{common_steps}
use Rattle.std.proofs.lemmas.Bool.{and_parts}
use Rattle.std.proofs.lemmas.Option.{same_Some, none-some}
use Rattle.mas_mind.specs.declared.mind.End.{End}
use Rattle.mas_mind.specs.declared.mind.End.TheVariants.{Quiet, Stopped, Cycles}
use Rattle.mas_mind.specs.declared.mind.Outs.{Outs}
use Rattle.mas_mind.specs.declared.mind.Thought.{Thought}
use Rattle.mas_mind.specs.declared.mind.Thought.TheVariants.{Outs as Acts, Spent}
use Rattle.mas_mind.specs.Minds.{Kind, IsAgent}
use Rattle.mas_board.specs.declared.seats.Phase.{Phase}
use Rattle.mas_board.specs.declared.seats.Phase.TheVariants.{Idle, Busy, Left as Gone}
use Rattle.mas_board.specs.declared.seats.Sensed.{Sensed}
use Rattle.mas_board.specs.declared.seats.Sensed.TheVariants.{Left}
use Rattle.mas_board.specs.Boards.{State, seat_at, is_at_limit, all_quiet, is_ahead, left_by, left_cycles, left_stopped, left_quiet, ahead, given, begun, input_of, sense, emit, leave}
use Rattle.mas_core_laws.specs.Quiet.{sense_on, turn_on, turn_in_on}
use Rattle.mas_core.specs.Platform.{Platform, is_agent, think, turn, turn_in, after_sense, after_thought, after_emit, after_leave, with_board, thought_by}

-- ---- a Sense

pub data SensedAs (s : State) (a : ℕ) (r : Sensed × State) : Type 0 where
  Goes : (e : End) → r ≡ (Left e, left_by s a e) → SensedAs s a r
  Waits : r ≡ ahead s a → SensedAs s a r
  Takes : is_at_limit s a ≡ false → is_ahead s a ≡ false → r ≡ given s a → SensedAs s a r

pub sensed_by : (s : State) (a : ℕ) (x y z w : Bool) → is_at_limit s a ≡ x → is_ahead s a ≡ w →
    SensedAs s a (if x then left_cycles s a else if y then left_stopped s a else if z then left_quiet s a else if w then ahead s a else given s a)
sensed_by s a true y z w e f = Goes Cycles refl
sensed_by s a false true z w e f = Goes Stopped refl
sensed_by s a false false true w e f = Goes Quiet refl
sensed_by s a false false false true e f = Waits refl
sensed_by s a false false false false e f = Takes e f refl

pub sensed : (s : State) (a : ℕ) → SensedAs s a (sense s a)
sensed s a = sensed_by s a (is_at_limit s a) s.stop (all_quiet s) (is_ahead s a) refl refl

-- ---- a turn

-- the agent has left
pub record HasGone {V : Type 0} (p : Platform V) (a : ℕ) (r : Sensed × State) (q : Platform V) : Type 0 where
  pub idle : (seat_at p.board a).phase ≡ Idle
  pub end : End
  pub sensed : r ≡ (Left end, left_by p.board a end)
  pub is : q ≡ with_board p (left_by p.board a end)

-- it was given its input
pub record HasThought {V : Type 0} (k : Kind V) (p : Platform V) (a : ℕ) (r : Sensed × State) (q : Platform V) : Type 0 where
  pub idle : (seat_at p.board a).phase ≡ Idle
  pub mind : V
  pub mind_is : slice_get p.minds (a - 1) ≡ Some mind
  pub short : is_at_limit p.board a ≡ false
  pub near : is_ahead p.board a ≡ false
  pub sensed : r ≡ given p.board a
  pub is : q ≡ thought_by p a (begun p.board a) (k.cycle mind (input_of p.board a))

-- its outs were carried out
pub record HasActed {V : Type 0} (k : Kind V) (p : Platform V) (a : ℕ) (q : Platform V) : Type 0 where
  pub busy : (seat_at p.board a).phase ≡ Busy
  pub outs : Outs
  pub outs_are : slice_get p.thoughts (a - 1) ≡ Some (Some (Acts outs))
  pub is : q ≡ after_emit k p a (emit p.board a outs)

-- its budget was spent
pub record HasSpent {V : Type 0} (p : Platform V) (a : ℕ) (q : Platform V) : Type 0 where
  pub busy : (seat_at p.board a).phase ≡ Busy
  pub thought_is : slice_get p.thoughts (a - 1) ≡ Some (Some Spent)
  pub is : q ≡ after_leave p a (leave p.board a)

pub data Turned {V : Type 0} (k : Kind V) (p : Platform V) (a : ℕ) (r : Sensed × State) (q : Platform V) : Type 0 where
  Leaves : HasGone p a r q → Turned k p a r q
  Thinks : HasThought k p a r q → Turned k p a r q
  Emits : HasActed k p a q → Turned k p a r q
  Spends : HasSpent p a q → Turned k p a r q

think-by : {V : Type 0} (k : Kind V) (p : Platform V) (a : ℕ) (q : Platform V) (r : Sensed × State) (m : Option V) → (seat_at p.board a).phase ≡ Idle →
    is_at_limit p.board a ≡ false → is_ahead p.board a ≡ false → r ≡ given p.board a → slice_get p.minds (a - 1) ≡ m → think k p a (begun p.board a) (input_of p.board a) m ≡ Some q → Turned k p a r q
think-by k p a q r None i l w e f h = absurd (none-some q h)
think-by k p a q r (Some m) i l w e f h = Thinks (record { idle = i; mind = m; mind_is = f; short = l; near = w; sensed = e; is = sym (same_Some _ q h) })

pub idle_turn : {V : Type 0} (k : Kind V) (p : Platform V) (a : ℕ) (q : Platform V) (r : Sensed × State) → (seat_at p.board a).phase ≡ Idle → SensedAs p.board a r → after_sense k p a r ≡ Some q → Turned k p a r q
idle_turn k p a q r i (Goes e f) h = Leaves (record { idle = i; end = e; sensed = f; is = sym (same_Some _ q (sym (ap (after_sense k p a) f) ∙ h)) })
idle_turn k p a q r i (Waits f) h = absurd (none-some q (sym (ap (after_sense k p a) f) ∙ h))
idle_turn k p a q r i (Takes l w f) h = think-by k p a q r (slice_get p.minds (a - 1)) i l w f refl (sym (ap (after_sense k p a) f) ∙ h)

busy-turn : {V : Type 0} (k : Kind V) (p : Platform V) (a : ℕ) (q : Platform V) (r : Sensed × State) (t : Option (Option Thought)) → (seat_at p.board a).phase ≡ Busy →
    slice_get p.thoughts (a - 1) ≡ t → after_thought k p a t ≡ Some q → Turned k p a r q
busy-turn k p a q r None b e h = absurd (none-some q h)
busy-turn k p a q r (Some None) b e h = absurd (none-some q h)
busy-turn k p a q r (Some (Some (Acts outs))) b e h = Emits (record { busy = b; outs = outs; outs_are = e; is = sym (same_Some _ q h) })
busy-turn k p a q r (Some (Some Spent)) b e h = Spends (record { busy = b; thought_is = e; is = sym (same_Some _ q h) })

pub is-agent : (n a : ℕ) → is_agent n a ≡ true → IsAgent n a
is-agent n a e =
    let h = and_parts (nat_le 1 a) (nat_le a n) e in
    let x : nat_le 1 a ≡ true = h.0 in
    let y : nat_le a n ≡ true = h.1 in
    record { from_one = grind (arith, common_steps); named = grind (arith, common_steps) }

-- a turn is that of an agent
pub record TurnOf {V : Type 0} (k : Kind V) (p : Platform V) (a : ℕ) (r : Sensed × State) (q : Platform V) : Type 0 where
  pub agent : IsAgent (length p.board.seats) a
  pub case : Turned k p a r q

turned-in : {V : Type 0} (k : Kind V) (p : Platform V) (a : ℕ) (q : Platform V) (phase : Phase) → (seat_at p.board a).phase ≡ phase → turn_in k p a phase ≡ Some q → Turned k p a (sense p.board a) q
turned-in k p a q Idle e h = idle_turn k p a q (sense p.board a) e (sensed p.board a) h
turned-in k p a q Busy e h = busy-turn k p a q (sense p.board a) (slice_get p.thoughts (a - 1)) e refl h
turned-in k p a q (Gone end) e h = absurd (none-some q h)

-- a turn of the part of an agent
pub turn_by : {V : Type 0} (k : Kind V) (p : Platform V) (a : ℕ) (q : Platform V) (r : Sensed × State) (o : Option (Platform V)) (t : Bool) → is_agent (length p.board.seats) a ≡ t →
    (o ≡ Some q → Turned k p a r q) → (if t then o else None) ≡ Some q → TurnOf k p a r q
turn_by k p a q r o true e f h = record { agent = is-agent (length p.board.seats) a e; case = f h }
turn_by k p a q r o false e f h = absurd (none-some q h)

pub turned : {V : Type 0} (k : Kind V) (p : Platform V) (a : ℕ) (q : Platform V) → turn k p a ≡ Some q → TurnOf k p a (sense p.board a) q
turned k p a q h = turn_by k p a q (sense p.board a) (turn_in k p a (seat_at p.board a).phase) (is_agent (length p.board.seats) a) refl (turned-in k p a q (seat_at p.board a).phase refl) h

-- ---- a turn without the case of quiet

sensed_on : (s : State) (a : ℕ) → SensedAs s a (sense_on s a)
sensed_on s a = sensed_by s a (is_at_limit s a) s.stop false (is_ahead s a) refl refl

turned-in-on : {V : Type 0} (k : Kind V) (p : Platform V) (a : ℕ) (q : Platform V) (phase : Phase) → (seat_at p.board a).phase ≡ phase → turn_in_on k p a phase ≡ Some q → Turned k p a (sense_on p.board a) q
turned-in-on k p a q Idle e h = idle_turn k p a q (sense_on p.board a) e (sensed_on p.board a) h
turned-in-on k p a q Busy e h = busy-turn k p a q (sense_on p.board a) (slice_get p.thoughts (a - 1)) e refl h
turned-in-on k p a q (Gone end) e h = absurd (none-some q h)

pub turned_on : {V : Type 0} (k : Kind V) (p : Platform V) (a : ℕ) (q : Platform V) → turn_on k p a ≡ Some q → TurnOf k p a (sense_on p.board a) q
turned_on k p a q h = turn_by k p a q (sense_on p.board a) (turn_in_on k p a (seat_at p.board a).phase) (is_agent (length p.board.seats) a) refl (turned-in-on k p a q (seat_at p.board a).phase refl) h
