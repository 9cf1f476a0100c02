-- The promises of a mind hold of what sits in a place, where they hold of the minds of the agents' own.
use Rattle.std.specs.Prelude.{◌≡◌, ℕ, true, false, refl, None}
use Rattle.mas_mind.specs.declared.mind.Input.{Input}
use Rattle.mas_mind.specs.declared.mind.Feedback.{Feedback}
use Rattle.mas_mind.specs.Minds.{Kind, Grows, SendsNothing, is_quiet, asks_feedback}
use Rattle.mas_sites_stand.specs.Seats.{seated, seated_cycle, seated_told}
use Rattle.mas_sites_stand.specs.inner.Laws as stands
use Rattle.mas_sites_stand.specs.declared.seated.Seated.{Seated}
use Rattle.mas_sites_stand.specs.declared.seated.Seated.TheVariants as seat

grows_own : {V : Type 0} (k : Kind V) (m n : V) (c : ℕ) → Grows k m n c → Grows (seated k) (seat.Own m) (seat.Own n) c
grows_own k m n c g = record { made = g.made; new_lines = g.new_lines; lines = g.lines; me = g.me; agents = g.agents }

module _ {V : Type 0} (k : Kind V) where
  pub quiet_sends_nothing : ((m : V) (i : Input) → is_quiet (k.cycle m i).thought ≡ true → SendsNothing (k.cycle m i).thought)
      → (m : Seated V) (i : Input) → is_quiet (seated_cycle k m i).thought ≡ true → SendsNothing (seated_cycle k m i).thought
  quiet_sends_nothing law (seat.Own m) i q = law m i q
  quiet_sends_nothing law (seat.Stand s) i q = stands.quiet_sends_nothing s i q

  pub quiet_again : ((m : V) (i j : Input) → is_quiet (k.cycle m i).thought ≡ true → j.percepts ≡ i.percepts → j.message ≡ None
      → is_quiet (k.cycle (k.cycle m i).mind j).thought ≡ true)
      → (m : Seated V) (i j : Input) → is_quiet (seated_cycle k m i).thought ≡ true → j.percepts ≡ i.percepts → j.message ≡ None
      → is_quiet (seated_cycle k (seated_cycle k m i).mind j).thought ≡ true
  quiet_again law (seat.Own m) i j q p n = law m i j q p n
  quiet_again law (seat.Stand s) i j q p n = stands.quiet_again s i j q p n

  pub awaits_after : ((m : V) (i : Input) → k.awaits (k.cycle m i).mind ≡ asks_feedback (k.cycle m i).thought)
      → (m : Seated V) (i : Input) → (seated k).awaits (seated_cycle k m i).mind ≡ asks_feedback (seated_cycle k m i).thought
  awaits_after law (seat.Own m) i = law m i
  awaits_after law (seat.Stand s) i = refl

  pub awaits_no_more : ((m : V) (f : Feedback) → k.awaits (k.took m f) ≡ false) → (m : Seated V) (f : Feedback) → (seated k).awaits (seated_told k m f) ≡ false
  awaits_no_more law (seat.Own m) f = law m f
  awaits_no_more law (seat.Stand s) f = refl

  pub goes_on : ((m : V) (i : Input) → Grows k m (k.cycle m i).mind 1) → (m : Seated V) (i : Input) → Grows (seated k) m (seated_cycle k m i).mind 1
  goes_on law (seat.Own m) i = grows_own k m (k.cycle m i).mind 1 (law m i)
  goes_on law (seat.Stand s) i = let g = stands.goes_on s i in record { made = g.made; new_lines = g.new_lines; lines = g.lines; me = g.me; agents = g.agents }

  pub is_told : ((m : V) (f : Feedback) → Grows k m (k.took m f) 0) → (m : Seated V) (f : Feedback) → Grows (seated k) m (seated_told k m f) 0
  is_told law (seat.Own m) f = grows_own k m (k.took m f) 0 (law m f)
  is_told law (seat.Stand s) f = let g = stands.is_told s f in record { made = g.made; new_lines = g.new_lines; lines = g.lines; me = g.me; agents = g.agents }
