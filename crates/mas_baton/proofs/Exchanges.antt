-- What the calls tell of an exchange, put together.
use Rattle.std.proofs.Common.{◌≡◌, ℕ, false, Option, Some, None, Result, Ok, Err, IfOk, List, [], ◌∷◌, ◌++◌, cond, sym, ap, ◌∙◌, subst, append-nil, arith}
use Rattle.std.specs.Option.{option_to_list}
use Rattle.asl_term.specs.declared.sequence.Starved.{Starved}
use Rattle.mas_board_lists.specs.Lists.{StartsWith, times}
use Rattle.mas_mind.specs.declared.mind.Outs.{Outs}
use Rattle.mas_mind.specs.declared.mind.Feedback.{Feedback}
use Rattle.mas_mind.specs.declared.mind.End.TheVariants.{Budget}
use Rattle.mas_board.specs.declared.seats.Phase.{Phase}
use Rattle.mas_board.specs.declared.seats.Phase.TheVariants.{Idle, Busy}
use Rattle.mas_board.specs.declared.seats.Sensed.{Sensed}
use Rattle.mas_board.specs.declared.seats.Sensed.TheVariants as answer
use Rattle.mas_board.specs.Boards as board
use Rattle.mas_board.specs.Boards.{Noted}
use Rattle.mas_board.specs.Seating.{IsAt, HasSensed, SenseLeaves, HasEmitted, HasLeft, IsInputFor}
use Rattle.mas_board_turns.specs.declared.turn.Turn.{Turn}
use Rattle.mas_board_turns.specs.declared.turn.Turn.TheVariants as turn
use Rattle.mas_board_turns.specs.Turns.{phase_after}
use Rattle.mas_board_turns.specs.Answers.{sensed, made_by_sense, made_by_emit}
use Rattle.mas_board_turns.specs.declared.view.SideView.{SideView}
use Rattle.mas_board_turns.specs.Views.{Turns, noted}
use Rattle.mas_board_turns.specs.Steps.{of_first, Sits, Made, Stands, took, gave}
use Rattle.mas_baton.specs.declared.seat.Seat.{Seat}
use Rattle.mas_baton.specs.Rule.{IsFresh}
use Rattle.mas_baton.specs.Seats.{known, turns_of, first_of, met_by, phase_of, Met, Exchanged, SenseExchanged, GivenIf, EmitExchanged, LeaveExchanged}

-- ---- an exchange

first_noted : (a : ℕ) (made : Option Turn) (ts : List Turn) (es : Turns) → es ≡ (a, ts) ∷ [] → of_first (noted made es) ≡ of_first es ++ option_to_list made
first_noted a None ts es e = sym (append-nil (of_first es))
first_noted a (Some t) ts es e = ap (λ (l : Turns). of_first (noted (Some t) l)) e ∙ ap (λ (l : List Turn). l ++ t ∷ []) (sym (ap of_first e))

module _ {A : Type 0} (old mid new : Seat A) (x y : Noted) (made : Option Turn) (m : Met old mid x) (n : new.number ≡ mid.number) (g : known new ≡ gave made (known mid) y) where
  abbrev back : known new ≡ gave made (took (known old) x) y
  back = g ∙ ap (λ (v : SideView). gave made v y) m.taken

  pub met_again : met_by new ≡ x
  met_again = ap (λ (v : SideView). v.met) back

  pub exchanged : Sits old.number false (known old) → Made made x old.number y → Exchanged old new made y
  exchanged s h =
      let e = sym met_again in
      record {
        number = n ∙ m.number;
        first = ap (λ (v : SideView). v.first.board) back;
        goes_on = subst (λ (b : Noted). StartsWith b.schedule (known old).seen) e m.goes_on;
        makes = subst (λ (b : Noted). Made made b old.number y) e h;
        turns = ap (λ (v : SideView). of_first v.turns) back ∙ first_noted old.number made (turns_of old) (known old).turns s.turns;
        seen = ap (λ (v : SideView). v.seen) back;
        halted = ap (λ (v : SideView). v.halted) back;
        stands = subst (λ (b : Noted). Stands (first_of old).state b.state (old.number, turns_of old)) e m.stands;
        latest = subst (λ (b : Noted). times old.number b.schedule ≡ times old.number (known old).seen) e m.latest;
      }

-- ---- a Sense

sense_made : (a : ℕ) (s : Sensed) (x y : Noted) → IsAt x.state a Idle → HasSensed x y a s → SenseLeaves x y a s → Made (sensed s) x a y
sense_made a (answer.Input i) x y at h l = ((at, h.state ∙ ap (λ b. cond b (answer.Halted, x.state) (board.sense x.state a)) l.0), h.schedule)
sense_made a (answer.Left e) x y at h l = ((at, h.state ∙ ap (λ b. cond b (answer.Halted, x.state) (board.sense x.state a)) l.0), h.schedule)
sense_made a (answer.Ahead c n) x y at h l = (ap (λ (b : Noted). b.state) l.1, ap (λ (b : Noted). b.schedule) l.1)
sense_made a answer.Halted x y at h l = (ap (λ (b : Noted). b.state) l.1, ap (λ (b : Noted). b.schedule) l.1)

module _ {A : Type 0} (old mid new : Seat A) (x y : Noted) (sits : Sits old.number false (known old)) (m : Met old mid x) (n : new.number ≡ mid.number) where
  given_if : (s : Sensed) → IsFresh (first_of old) → SenseLeaves x y old.number s → GivenIf old s
  given_if (answer.Input i) f l = record {
    input_for = subst (λ (k : ℕ). IsInputFor k old.number i) m.stands.agents l.1.input_for;
    short = (let z = f.new old.number in let c = m.stands.cycle in let d = m.stands.limit in let e = l.1.short in omega arith);
  }
  given_if (answer.Left e) f l = tt
  given_if (answer.Ahead c k) f l = tt
  given_if answer.Halted f l = tt

  pub sense_given : (r : Result Sensed Starved) → IsFresh (first_of old) → IfOk r (SenseLeaves x y old.number) → IfOk r (GivenIf old)
  sense_given (Ok s) f l = given_if s f l
  sense_given (Err e) f l = tt

  pub sense_exchanged : (r : Result Sensed Starved) → IsAt x.state old.number Idle → IfOk r (HasSensed x y old.number) → IfOk r (SenseLeaves x y old.number) → known new ≡ gave (made_by_sense r) (known mid) y →
      IfOk r (SenseExchanged old new)
  sense_exchanged (Ok s) at h l g =
      let e = sym (met_again old mid new x y (sensed s) m n g) in
      record {
        after = y;
        exchanged = exchanged old mid new x y (sensed s) m n g sits (sense_made old.number s x y at h l);
        answered = subst (λ (b : Noted). HasSensed b y old.number s) e h;
        leaves = subst (λ (b : Noted). SenseLeaves b y old.number s) e l;
      }
  sense_exchanged (Err r) at h l g = tt

  -- ---- an Emit

  pub emit_exchanged : (outs : Outs) (r : Result (Option Feedback) Starved) → IsAt x.state old.number Busy → IfOk r (HasEmitted x y old.number outs) → known new ≡ gave (made_by_emit outs r) (known mid) y →
      IfOk r (EmitExchanged old new outs)
  emit_exchanged outs (Ok f) at h g =
      let t = Some (turn.Emitted outs f) in
      record {
        after = y;
        exchanged = exchanged old mid new x y t m n g sits ((at, h.state), h.schedule);
        answered = subst (λ (b : Noted). HasEmitted b y old.number outs f) (sym (met_again old mid new x y t m n g)) h;
      }
  emit_exchanged outs (Err r) at h g = tt

  -- ---- a Leave and a halt

  pub leave_exchanged : IsAt x.state old.number Busy → HasLeft x y old.number Budget → known new ≡ gave (Some turn.Gone) (known mid) y → LeaveExchanged old new
  leave_exchanged at h g = record {
    after = y;
    exchanged = exchanged old mid new x y (Some turn.Gone) m n g sits ((at, h.state), h.schedule);
    answered = subst (λ (b : Noted). HasLeft b y old.number Budget) (sym (met_again old mid new x y (Some turn.Gone) m n g)) h;
  }

-- ---- as the calls need it, for the number that the seat has once the board is taken

module _ {A : Type 0} (old mid : Seat A) (x : Noted) (m : Met old mid x) where
  pub at_phase : (p : Phase) → IsFresh (first_of old) → phase_of old ≡ p → IsAt x.state mid.number p
  at_phase p f e =
      let q = ap (λ (r : Phase). phase_after r (turns_of old)) (f.idle old.number) ∙ e in
      subst (λ (n : ℕ × Phase). IsAt x.state n.0 n.1) (λ i. (sym m.number i, q i)) m.stands.at

  module _ (new : Seat A) (y : Noted) (sits : Sits old.number false (known old)) (f : IsFresh (first_of old)) (n : new.number ≡ mid.number) where
    pub told_sense : (r : Result Sensed Starved) → phase_of old ≡ Idle → IfOk r (HasSensed x y mid.number) → IfOk r (SenseLeaves x y mid.number) → known new ≡ gave (made_by_sense r) (known mid) y →
        IfOk r (SenseExchanged old new)
    told_sense r e h l g = sense_exchanged old mid new x y sits m n r (subst (λ (k : ℕ). IsAt x.state k Idle) m.number (at_phase Idle f e))
        (subst (λ (k : ℕ). IfOk r (HasSensed x y k)) m.number h) (subst (λ (k : ℕ). IfOk r (SenseLeaves x y k)) m.number l) g

    pub told_given : (r : Result Sensed Starved) → IfOk r (SenseLeaves x y mid.number) → IfOk r (GivenIf old)
    told_given r l = sense_given old mid new x y sits m n r f (subst (λ (k : ℕ). IfOk r (SenseLeaves x y k)) m.number l)

    pub told_emit : (outs : Outs) (r : Result (Option Feedback) Starved) → phase_of old ≡ Busy → IfOk r (HasEmitted x y mid.number outs) → known new ≡ gave (made_by_emit outs r) (known mid) y →
        IfOk r (EmitExchanged old new outs)
    told_emit outs r e h g = emit_exchanged old mid new x y sits m n outs r (subst (λ (k : ℕ). IsAt x.state k Busy) m.number (at_phase Busy f e))
        (subst (λ (k : ℕ). IfOk r (HasEmitted x y k outs)) m.number h) g

    pub told_leave : phase_of old ≡ Busy → HasLeft x y mid.number Budget → known new ≡ gave (Some turn.Gone) (known mid) y → LeaveExchanged old new
    told_leave e h g = leave_exchanged old mid new x y sits m n (subst (λ (k : ℕ). IsAt x.state k Busy) m.number (at_phase Busy f e)) (subst (λ (k : ℕ). HasLeft x y k Budget) m.number h) g
