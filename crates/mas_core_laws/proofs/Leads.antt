-- No agent is far ahead of another.
use Rattle.std.proofs.Common.{ℕ, ◌≡◌, ◌-◌, arith, false, List, [], ◌∷◌, length, replicate, slice_get, Option, None, Some, refl, ap, sym, ◌∙◌, subst}
use Rattle.std.proofs.lemmas.Option.{same_Some, none-some}
use Rattle.std.proofs.lemmas.List.{length-replicate}
use Rattle.mas_mind.specs.Minds.{Kind, IsAgent}
use Rattle.mas_board.specs.declared.seats.Phase.{Phase}
use Rattle.mas_board.specs.declared.seats.AgentPlace.{AgentPlace}
use Rattle.mas_board.specs.Boards.{seat_or_none, is_gone, no_seat, sense}
use Rattle.mas_board.specs.Seating.{AreLed}
use Rattle.mas_board.proofs.Soundness.{led_same, led_begun}
use Rattle.mas_core.specs.Platform.{Platform, turn, run, and_run}
use Rattle.mas_core_laws.specs.Lead.{NeverFarAhead}
use Rattle.mas_core_laws.proofs.Places.{in_replicate}
use Rattle.mas_core_laws.proofs.Steps.{Turned, Leaves, Thinks, Emits, Spends, turned}

-- ---- a turn

record LedTurn {V : Type 0} (p q : Platform V) : Type 0 where
  lead : q.board.lead ≡ p.board.lead
  led : AreLed p.board.lead q.board.seats

led-as : (lead : ℕ) (old new : List AgentPlace) → new ≡ old → AreLed lead old → AreLed lead new
led-as lead old new e h = let P = λ (x : List AgentPlace). AreLed lead x in subst P (sym e) h

here : (phase other : Phase) → phase ≡ other → is_gone other ≡ false → is_gone phase ≡ false
here phase other e f = ap is_gone e ∙ f

led-case : {V : Type 0} (k : Kind V) (p : Platform V) (a : ℕ) (q : Platform V) → AreLed p.board.lead p.board.seats → IsAgent (length p.board.seats) a → Turned k p a (sense p.board a) q → LedTurn p q
led-case k p a q h i (Leaves t) = record {
  lead = ap (λ x. x.board.lead) t.is;
  led = led-as p.board.lead _ _ (ap (λ x. x.board.seats) t.is) (led_same p.board.lead p.board.seats a _ i h (here _ _ t.idle refl) refl);
}
led-case k p a q h i (Thinks t) = record {
  lead = ap (λ x. x.board.lead) t.is;
  led = led-as p.board.lead _ _ (ap (λ x. x.board.seats) t.is) (led_begun p.board a _ i h (here _ _ t.idle refl) refl t.near);
}
led-case k p a q h i (Emits t) = record {
  lead = ap (λ x. x.board.lead) t.is;
  led = led-as p.board.lead _ _ (ap (λ x. x.board.seats) t.is) (led_same p.board.lead p.board.seats a _ i h (here _ _ t.busy refl) refl);
}
led-case k p a q h i (Spends t) = record {
  lead = ap (λ x. x.board.lead) t.is;
  led = led-as p.board.lead _ _ (ap (λ x. x.board.seats) t.is) (led_same p.board.lead p.board.seats a _ i h (here _ _ t.busy refl) refl);
}

-- ---- a run

led-next : {V : Type 0} (k : Kind V) (p done : Platform V) (a lead : ℕ) (names : List ℕ) → p.board.lead ≡ lead → AreLed lead p.board.seats →
    ((q : Platform V) → q.board.lead ≡ lead → AreLed lead q.board.seats → run k q names ≡ Some done → AreLed lead done.board.seats) →
    (o : Option (Platform V)) → turn k p a ≡ o → and_run (λ q. run k q names) o ≡ Some done → AreLed lead done.board.seats
led-next k p done a lead names l h more None e r = absurd (none-some done r)
led-next k p done a lead names l h more (Some q) e r =
    let P = λ (x : ℕ). AreLed x p.board.seats in
    let Q = λ (x : ℕ). AreLed x q.board.seats in
    let f = turned k p a q e in
    let t = led-case k p a q (subst P (sym l) h) f.agent f.case in
    more q (t.lead ∙ l) (subst Q l t.led) r

led-run : {V : Type 0} (k : Kind V) (p done : Platform V) (lead : ℕ) (names : List ℕ) → p.board.lead ≡ lead → AreLed lead p.board.seats → run k p names ≡ Some done → AreLed lead done.board.seats
led-run k p done lead [] l h r = led-as lead _ _ (ap (λ x. x.board.seats) (sym (same_Some p done r))) h
led-run k p done lead (a ∷ names) l h r = led-next k p done a lead names l h (λ q m g s. led-run k q done lead names m g s) (turn k p a) refl r

-- at the opening all cycle numbers are 0
led-open : (lead n : ℕ) → AreLed lead (replicate n no_seat)
led-open lead n = λ a b i j g e.
    let l = i.named in
    let f = i.from_one in
    let m = length-replicate n no_seat in
    let c : (seat_or_none (slice_get (replicate n no_seat) (a - 1))).cycle ≡ 0 = ap (λ x. (seat_or_none x).cycle) (in_replicate n (a - 1) no_seat (omega arith)) in
    omega arith

pub never_far_ahead : {V : Type 0} (k : Kind V) → NeverFarAhead k
never_far_ahead k agents w cycles lead minds done names r = led-run k _ done lead names refl (led-open lead (length agents)) r
