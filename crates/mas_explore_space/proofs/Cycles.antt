-- What comes of an idle agent's move.
use Rattle.std.proofs.Common.{ℕ, ◌≡◌, ◌+◌, ◌-◌, ◌<◌, ◌≤◌, arith, true, false, IfSome, IfOk, List, length, slice_get, Option, None, Some, refl, ap, sym, ◌∙◌, subst}
use Rattle.std.proofs.lemmas.Option.{slice_get_within}
use Rattle.std.specs.declared.result.Result.{Result}
use Rattle.std.specs.declared.result.Result.TheVariants.{Ok, Err}
use Rattle.mas_mind.specs.declared.mind.Message.{Message}
use Rattle.mas_mind.specs.declared.mind.Input.{Input}
use Rattle.mas_mind.specs.declared.mind.End.{End}
use Rattle.mas_mind.specs.declared.mind.End.TheVariants.{Stopped, Budget}
use Rattle.mas_mind.specs.declared.mind.Thought.{Thought}
use Rattle.mas_mind.specs.Minds as mind
use Rattle.mas_mind.specs.Minds.{Kind, asks_feedback}
use Rattle.mas_free.specs.Free.{Free}
use Rattle.mas_free.specs.Covers.{Start}
use Rattle.mas_explore_minds.specs.Minds.{Stay, MayCycle, ThinksTo}
use Rattle.mas_explore_minds.specs.declared.heard.Cycle.{Cycle}
use Rattle.mas_explore_minds.specs.declared.heard.Thinking.{Thinking}
use Rattle.mas_explore_minds.specs.declared.heard.Thinking.TheVariants.{Nothing, Led}
use Rattle.mas_explore_minds.proofs.Fitting.{thinks_on}
use Rattle.mas_explore_worlds.proofs.Fitting.{number_of}
use Rattle.mas_explore_space.specs.declared.held.Held.{Held}
use Rattle.mas_explore_space.specs.declared.row.Row.{Row}
use Rattle.mas_explore_space.specs.declared.row.Seat.{Seat}
use Rattle.mas_explore_space.specs.declared.row.Stance.{Stance}
use Rattle.mas_explore_space.specs.declared.row.Stance.TheVariants as stance
use Rattle.mas_explore_space.specs.Held.{worlds_of, IsSeen, Fits, Grows, HasGrown}
use Rattle.mas_explore_space.specs.Rows.{RowHolds, Stands, HasMoved, with_stance, with_seat, IsFront, IsRest, HasBox, HasCycled, HasLed, IsMover, stance_after}
use Rattle.mas_explore_space.proofs.Helds.{grown_same, grown_then, seen_on}
use Rattle.mas_explore_space.proofs.Rows.{row_on}
use Rattle.mas_explore_space.proofs.Moves.{stop_moves, spent_moves, left_moves, leave_comes, may_cycle, nothing_moves, led_comes}

front-on : (old new : List (List Message)) (mail front : ℕ) → Stay old new → IsFront old mail front → IsFront new mail front
front-on old new mail front more x = record {
  box = x.box;
  box_at = more mail x.box x.box_at;
  fronts = x.fronts;
  front_at = more front x.fronts x.front_at;
  first = x.first;
}

module _ {V : Type 0} (k : Kind V) (s : Start V) (h : Held) (most : ℕ) (row : Row) (a : ℕ) (seat : Seat) (mover : IsMover k s h most row a seat) where
  pub mover_world : row.world < 1 + length h.worlds
  mover_world =
      let w = slice_get_within (worlds_of s h) row.world mover.stands.state.world mover.stands.holds.world_at in
      let q = number_of s.names s.world h.worlds mover.fits.worlds in
      omega arith

  pub mover_place : a - 1 < length row.seats
  mover_place = slice_get_within row.seats (a - 1) seat mover.seat_at

  pub mover_box : (now : Held) → Grows k s h now → HasBox now.minds.boxes seat.mail
  mover_box now g = (let x = mover.stands.holds.each (a - 1) seat mover.seat_at in record { box = x.box; box_at = g.minds.boxes seat.mail x.box x.box_at })

  stays-as : HasGrown k s h h
  stays-as = grown_same k s h mover.fits

  pub mover_stops : seat.stance ≡ stance.Idle → row.stop ≡ true → HasMoved k s h h most row a (Some (with_stance row (a - 1) seat (stance.Left Stopped)))
  mover_stops idle stop = record {
    grown = stays-as;
    moves = λ f x. leave_comes k s h most row f a seat x mover.agent mover.seat_at Stopped (stop_moves k s h most row f a seat x mover.agent mover.seat_at idle stop);
  }

  pub mover_spent : seat.stance ≡ stance.Spent → HasMoved k s h h most row a (Some (with_stance row (a - 1) seat (stance.Left Budget)))
  mover_spent spent = record {
    grown = stays-as;
    moves = λ f x. leave_comes k s h most row f a seat x mover.agent mover.seat_at Budget (spent_moves k s h most row f a seat x mover.agent mover.seat_at spent);
  }

  pub mover_left : (end : End) → seat.stance ≡ stance.Left end → HasMoved k s h h most row a None
  mover_left end left = record { grown = stays-as; moves = λ f x. left_moves k s h most row f a seat x mover.agent mover.seat_at end left }

  module _ (idle : seat.stance ≡ stance.Idle) where
    pub mover_may : (now : Held) (sight front : ℕ) → most < 1000000 → Grows k s h now → IsSeen s now (record { world = row.world; agent = a }) sight → IsFront now.minds.boxes seat.mail front →
        MayCycle k s.minds now.minds (record { mind = seat.mind; sight = sight; front = front })
    mover_may now sight front l g seen fronts =
        may_cycle k s now most row mover.stands.state a seat (row_on k s h now most most row mover.stands.state g (omega arith) mover.stands.holds) mover.agent mover.seat_at idle sight front seen fronts l

    module _ (running : row.stop ≡ false) where
      pub nothing_comes : (now : Held) → HasCycled k s h now row.world a seat Nothing → HasMoved k s h now most row a None
      nothing_comes now c = record {
        grown = c.grown;
        moves = λ f x. nothing_moves k s now most row f a seat (row_on k s h now most most row f c.grown.grows (omega arith) x) mover.agent mover.seat_at idle c.sight c.front c.seen c.fronts running Nothing c.thinks refl;
      }

      stance-is : (thoughts : List Thought) (t : ℕ) (st : Stance) → IfSome (slice_get thoughts t) (λ z. st ≡ stance_after t z) → (z : Thought) → slice_get thoughts t ≡ Some z → st ≡ stance_after t z
      stance-is thoughts t st h z e = (let P = λ (o : Option Thought). IfSome o (λ y. st ≡ stance_after t y) in subst P e h)

      pub led_moves : ((m : V) (j : Input) → k.awaits (k.cycle m j).mind ≡ asks_feedback (k.cycle m j).thought) → ((m : V) (j : Input) → mind.Grows k m (k.cycle m j).mind 1) →
          (now later : Held) (n t mail : ℕ) (st : Stance) → HasCycled k s h now row.world a seat (Led n t) → HasGrown k s now later → IsRest later.minds.boxes seat.mail mail →
          IfSome (slice_get later.minds.thoughts t) (λ z. st ≡ stance_after t z) → HasMoved k s h later most row a (Some (with_seat row (a - 1) (record { mind = n; mail = mail; stance = st })))
      led_moves awaits goes now later n t mail st c more rest z =
          let grown = grown_then k s h now later c.grown more in
          let seen = seen_on k s now later (record { world = row.world; agent = a }) c.sight more.grows c.seen in
          let fronts = front-on now.minds.boxes later.minds.boxes seat.mail c.front more.grows.minds.boxes c.fronts in
          let thinks = thinks_on k s.minds now.minds later.minds (record { mind = seat.mind; sight = c.sight; front = c.front }) (Led n t) more.grows.minds c.thinks in
          record {
            grown = grown;
            moves = λ f x. led_comes k s later most row f a seat (row_on k s h later most most row f grown.grows (omega arith) x) mover.agent mover.seat_at idle c.sight c.front seen fronts running (Led n t) thinks
                awaits goes n t mail st refl rest (stance-is later.minds.thoughts t st z);
          }

      ok-map : {X E : Type 0} (P Q : X → Type 0) (r : Result X E) → ((x : X) → P x → Q x) → IfOk r P → IfOk r Q
      ok-map P Q (Ok x) f h = f x h
      ok-map P Q (Err e) f h = h

      pub led_comes_of : ((m : V) (j : Input) → k.awaits (k.cycle m j).mind ≡ asks_feedback (k.cycle m j).thought) → ((m : V) (j : Input) → mind.Grows k m (k.cycle m j).mind 1) → {E : Type 0} →
          (now later : Held) (n t : ℕ) (r : Result (Option Row) E) → HasCycled k s h now row.world a seat (Led n t) → IfOk r (HasLed k s now later row (a - 1) seat n t) → IfOk r (HasMoved k s h later most row a)
      led_comes_of awaits goes {E} now later n t r c = ok-map {X = Option Row} {E = E} (HasLed k s now later row (a - 1) seat n t) (HasMoved k s h later most row a) r
          (λ o l. (let P = λ (x : Option Row). HasMoved k s h later most row a x in
          subst P (sym l.next_is) (led_moves awaits goes now later n t l.mail l.st c l.grown l.rest l.does)))

pub has_cycled : {V : Type 0} (k : Kind V) (s : Start V) (h i j l : Held) (world a : ℕ) (seat : Seat) (sight front : ℕ) (comes : Thinking) → HasGrown k s h i → HasGrown k s i j → HasGrown k s j l →
    IsSeen s i (record { world = world; agent = a }) sight → IsFront j.minds.boxes seat.mail front → ThinksTo k s.minds l.minds (record { mind = seat.mind; sight = sight; front = front }) comes →
    HasCycled k s h l world a seat comes
has_cycled k s h i j l world a seat sight front comes x y z seen fronts thinks = record {
  grown = grown_then k s h j l (grown_then k s h i j x y) z;
  sight = sight;
  front = front;
  seen = seen_on k s j l (record { world = world; agent = a }) sight z.grows (seen_on k s i j (record { world = world; agent = a }) sight y.grows seen);
  fronts = front-on j.minds.boxes l.minds.boxes seat.mail front z.grows.minds.boxes fronts;
  thinks = thinks;
}
