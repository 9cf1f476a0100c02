-- Minds between which a relation holds that cycles and feedback keep are alike. So a type of minds shows that it is steady.
use Rattle.std.specs.Prelude.{◌≡◌, List, [], ◌∷◌}
use Rattle.mas_mind.specs.declared.mind.Input.{Input}
use Rattle.mas_mind.specs.declared.mind.Feedback.{Feedback}
use Rattle.mas_mind.specs.Minds.{Kind}
use Rattle.mas_free.specs.declared.view.View.{View}
use Rattle.mas_free.specs.Lines.{viewed}
use Rattle.mas_free.specs.Alike.{Event, Given, Told, after, Alike}

module _ {V : Type 0} (k : Kind V) (v : View) (R : V → V → Type 0)
    (thinks : (m n : V) (i : Input) → R m n → (k.cycle m i).thought ≡ (k.cycle n i).thought)
    (cycles : (m n : V) (i : Input) → R m n → R (k.cycle m i).mind (k.cycle n i).mind)
    (hears : (m n : V) (f : Feedback) → R m n → R (k.took m f) (k.took n f))
    (shows : (m n : V) → R m n → viewed v (k.lines m) ≡ viewed v (k.lines n)) where
  kept : (events : List Event) (m n : V) → R m n → R (after k m events) (after k n events)
  kept [] m n h = h
  kept (Given input ∷ events) m n h = kept events (k.cycle m input).mind (k.cycle n input).mind (cycles m n input h)
  kept (Told feedback ∷ events) m n h = kept events (k.took m feedback) (k.took n feedback) (hears m n feedback h)

  pub alike_by : (m n : V) → R m n → Alike k v m n
  alike_by m n h = record {
    thinks = λ events i. thinks (after k m events) (after k n events) i (kept events m n h);
    shows = λ events. shows (after k m events) (after k n events) (kept events m n h);
  }
