-- The numbers of a run are those of its agents.
use Rattle.std.proofs.Common.{ℕ, ◌≡◌, ◌<◌, ◌≤◌, ◌-◌, ◌+◌, arith, Bool, true, false, ◌&&◌, nat_le, List, [], ◌∷◌, ◌++◌, length, slice_get, slice_set, Option, None, Some, refl, ap, sym, ◌∙◌, if◌then◌else◌}
use Rattle.std.proofs.lemmas.Grind.{common_steps}
use Rattle.std.proofs.lemmas.List.{length-set}
use Rattle.mas_mind.specs.declared.mind.Input.{Input}
use Rattle.mas_mind.specs.declared.mind.Feedback.{Feedback}
use Rattle.mas_mind.specs.declared.mind.Thought.{Thought}
use Rattle.mas_mind.specs.declared.mind.Thought.TheVariants as thought
use Rattle.mas_mind.specs.Minds.{Kind}
use Rattle.mas_board.specs.declared.seats.Phase.{Phase}
use Rattle.mas_board.specs.declared.seats.Phase.TheVariants.{Idle, Busy, Left as Gone}
use Rattle.mas_board.specs.declared.seats.AgentPlace.{AgentPlace}
use Rattle.mas_board.specs.declared.seats.Sensed.{Sensed}
use Rattle.mas_board.specs.declared.seats.Sensed.TheVariants.{Input as Given, Left, Ahead, Halted}
use Rattle.mas_board.specs.Boards.{State, sense, seat_at, is_at_limit, all_quiet, is_ahead, left_cycles, left_stopped, left_quiet, ahead, given}
use Rattle.mas_core.specs.Platform.{Platform, after_sense, think, after_thought, turn_in, is_agent, turn, and_run, run}
use Rattle.mas_report_schedule.specs.Schedule.{AllFromOne}

some_same : {A : Type 0} {x y : A} → Some x ≡ Some y → x ≡ y
some_same e = cc

-- as many agents as there were
abbrev Same : {V : Type 0} → Platform V → Platform V → Type 0
Same p r = length r.board.seats ≡ length p.board.seats

module _ {V : Type 0} (k : Kind V) (p : Platform V) (a : ℕ) where
  thinks : (r : Platform V) (board : State) (input : Input) (m : Option V) → length board.seats ≡ length p.board.seats
      → think k p a board input m ≡ Some r → Same p r
  thinks r board input None h e = cc
  thinks r board input (Some m) h e = ap (λ q. length q.board.seats) (sym (some_same e)) ∙ h

  sensed : (r : Platform V) (s : Sensed) (board : State) → length board.seats ≡ length p.board.seats → after_sense k p a (s, board) ≡ Some r → Same p r
  sensed r (Given input) board h e = thinks r board input (slice_get p.minds (a - 1)) h e
  sensed r (Left end) board h e = ap (λ q. length q.board.seats) (sym (some_same e)) ∙ h
  sensed r (Ahead cycle lowest) board h e = cc
  sensed r Halted board h e = cc

  abbrev seats_kept : (x : Sensed × State) → Type 0
  seats_kept x = length x.1.seats ≡ length p.board.seats

  pick : (b : Bool) (x y : Sensed × State) → seats_kept x → seats_kept y → seats_kept (if b then x else y)
  pick true x y h g = h
  pick false x y h g = g

  sense_keeps : seats_kept (sense p.board a)
  sense_keeps =
      let s = p.board in
      pick (is_at_limit s a) _ _ (length-set s.seats (a - 1) _)
      (pick s.stop _ _ (length-set s.seats (a - 1) _)
      (pick (all_quiet s) _ _ (length-set s.seats (a - 1) _)
      (pick (is_ahead s a) _ _ refl (length-set s.seats (a - 1) _))))

  thought_ends : (r : Platform V) (t : Option (Option Thought)) → after_thought k p a t ≡ Some r → Same p r
  thought_ends r None e = cc
  thought_ends r (Some None) e = cc
  thought_ends r (Some (Some (thought.Outs outs))) e = ap (λ q. length q.board.seats) (sym (some_same e)) ∙ length-set p.board.seats (a - 1) _
  thought_ends r (Some (Some thought.Spent)) e = ap (λ q. length q.board.seats) (sym (some_same e)) ∙ length-set p.board.seats (a - 1) _

  turned : (r : Platform V) (phase : Phase) → turn_in k p a phase ≡ Some r → Same p r
  turned r Idle e = sensed r (sense p.board a).0 (sense p.board a).1 sense_keeps e
  turned r Busy e = thought_ends r (slice_get p.thoughts (a - 1)) e
  turned r (Gone end) e = cc

  turn_by : (r : Platform V) (b : Bool) → is_agent (length p.board.seats) a ≡ b → (if b then turn_in k p a (seat_at p.board a).phase else None) ≡ Some r
      → (is_agent (length p.board.seats) a ≡ true) × Same p r
  turn_by r true h e = (h, turned r (seat_at p.board a).phase e)
  turn_by r false h e = cc

from_one : (n a : ℕ) → n ≤ 65535 → is_agent n a ≡ true → (0 < a) × (a ≤ 65535)
from_one n a h e = (grind (arith, common_steps), grind (arith, common_steps))

numbers_on : {V : Type 0} (k : Kind V) (p q : Platform V) (a : ℕ) (names : List ℕ) → length p.board.seats ≤ 65535 → (t : Option (Platform V)) → turn k p a ≡ t
    → and_run (λ r. run k r names) t ≡ Some q → ((r : Platform V) → length r.board.seats ≤ 65535 → run k r names ≡ Some q → AllFromOne 65535 names)
    → AllFromOne 65535 (a ∷ names)
numbers_on k p q a names h None t e rest = cc
numbers_on k p q a names h (Some r) t e rest =
    let j = turn_by k p a r (is_agent (length p.board.seats) a) refl t in
    let same : length r.board.seats ≡ length p.board.seats = j.1 in
    let few : length r.board.seats ≤ 65535 = omega (arith, same, h) in
    (from_one (length p.board.seats) a h j.0, rest r few e)

-- each of them is from 1 to the number of agents
pub run_numbers : {V : Type 0} (k : Kind V) (p q : Platform V) (names : List ℕ) → length p.board.seats ≤ 65535 → run k p names ≡ Some q → AllFromOne 65535 names
run_numbers k p q [] h e = tt
run_numbers k p q (a ∷ names) h e = numbers_on k p q a names h (turn k p a) refl e (λ r g. run_numbers k r q names g)
