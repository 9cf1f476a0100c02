-- What the answer of a Sense tells of the board.
use Rattle.std.proofs.Common.{ℕ, ◌≡◌, Bool, true, false, if◌then◌else◌, refl, ap, sym, ◌∙◌}
use Rattle.mas_mind.specs.declared.mind.End.{End}
use Rattle.mas_mind.specs.declared.mind.End.TheVariants.{Quiet, Stopped, Cycles}
use Rattle.mas_board.specs.declared.seats.Sensed.{Sensed}
use Rattle.mas_board.specs.declared.seats.Sensed.TheVariants.{Input as Given, Left, Ahead, Halted}
use Rattle.mas_board.specs.Boards.{State, is_at_limit, all_quiet, is_ahead, left_cycles, left_stopped, left_quiet, ahead, given, sense}
use Rattle.mas_board.specs.Seating.{is_input}

abbrev end-of : Sensed → End
end-of (Given input) = Quiet
end-of (Left end) = end
end-of (Ahead cycle lowest) = Quiet
end-of Halted = Quiet

abbrev is-left : Sensed → Bool
is-left (Given input) = false
is-left (Left end) = true
is-left (Ahead cycle lowest) = false
is-left Halted = false

same-end : (x y : End) (r : Sensed × State) (t : State) → end-of r.0 ≡ x → r ≡ (Left y, t) → y ≡ x
same-end x y r t e h = sym (ap (λ (w : Sensed × State). end-of w.0) h) ∙ e

-- why an agent leaves
pub data WhyLeft (s : State) (e : End) : Type 0 where
  ByCycles : e ≡ Cycles → WhyLeft s e
  ByStop : e ≡ Stopped → s.stop ≡ true → WhyLeft s e
  ByQuiet : e ≡ Quiet → s.stop ≡ false → all_quiet s ≡ true → WhyLeft s e

why-left : (s : State) (a : ℕ) (e : End) (t : State) (x y z w : Bool) → s.stop ≡ y → all_quiet s ≡ z →
    (if x then left_cycles s a else if y then left_stopped s a else if z then left_quiet s a else if w then ahead s a else given s a) ≡ (Left e, t) → WhyLeft s e
why-left s a e t true y z w f g h = ByCycles (same-end Cycles e (left_cycles s a) t refl h)
why-left s a e t false true z w f g h = ByStop (same-end Stopped e (left_stopped s a) t refl h) f
why-left s a e t false false true w f g h = ByQuiet (same-end Quiet e (left_quiet s a) t refl h) f g
why-left s a e t false false false true f g h = let d : false ≡ true = ap (λ (r : Sensed × State). is-left r.0) h in cc
why-left s a e t false false false false f g h = let d : false ≡ true = ap (λ (r : Sensed × State). is-left r.0) h in cc

pub left_for : (s : State) (a : ℕ) (e : End) (t : State) → sense s a ≡ (Left e, t) → WhyLeft s e
left_for s a e t h = why-left s a e t (is_at_limit s a) s.stop (all_quiet s) (is_ahead s a) refl refl h

-- an agent is given input only where nothing stops the run and not all are quiet
pub record GoesOn (s : State) : Type 0 where
  pub running : s.stop ≡ false
  pub stirs : all_quiet s ≡ false

goes-by : (s : State) (a : ℕ) (x y z w : Bool) → s.stop ≡ y → all_quiet s ≡ z →
    (if x then left_cycles s a else if y then left_stopped s a else if z then left_quiet s a else if w then ahead s a else given s a) ≡ given s a → GoesOn s
goes-by s a true y z w f g h = let d : false ≡ true = ap (λ (r : Sensed × State). is_input r.0) h in cc
goes-by s a false true z w f g h = let d : false ≡ true = ap (λ (r : Sensed × State). is_input r.0) h in cc
goes-by s a false false true w f g h = let d : false ≡ true = ap (λ (r : Sensed × State). is_input r.0) h in cc
goes-by s a false false false w f g h = record { running = f; stirs = g }

pub goes_on : (s : State) (a : ℕ) → sense s a ≡ given s a → GoesOn s
goes_on s a h = goes-by s a (is_at_limit s a) s.stop (all_quiet s) (is_ahead s a) refl refl h
