-- What can be seen of minds, whatever befalls them, over any meaning V of minds.
use Rattle.std.specs.Prelude.{◌≡◌, true, List, [], ◌∷◌, None}
use Rattle.mas_mind.specs.declared.mind.Input.{Input}
use Rattle.mas_mind.specs.declared.mind.Feedback.{Feedback}
use Rattle.mas_mind.specs.Minds.{Kind, is_quiet}
use Rattle.mas_free.specs.declared.view.View.{View}
use Rattle.mas_free.specs.Lines.{are_lines, viewed}

-- what befalls a mind: it makes a cycle on an input, or is told what became of its action
pub data Event : Type 0 where
  Given : Input → Event
  Told : Feedback → Event

-- the mind after these, in order
abbrev pub after : {V : Type 0} → Kind V → V → List Event → V
after k m [] = m
after k m (Given input ∷ events) = after k (k.cycle m input).mind events
after k m (Told feedback ∷ events) = after k (k.took m feedback) events

-- whatever befalls the two minds, the same input gives both the same thought, and both have shown the same
pub record Alike {V : Type 0} (k : Kind V) (v : View) (m n : V) : Type 0 where
  pub thinks : (events : List Event) (i : Input) → (k.cycle (after k m events) i).thought ≡ (k.cycle (after k n events) i).thought
  pub shows : (events : List Event) → viewed v (k.lines (after k m events)) ≡ viewed v (k.lines (after k n events))

-- whatever befalls the mind, what it has shown are whole lines, and a quiet cycle writes none
pub record IsPlain {V : Type 0} (k : Kind V) (m : V) : Type 0 where
  pub whole : (events : List Event) → are_lines (k.lines (after k m events)) ≡ true
  pub silent : (events : List Event) (i : Input) → is_quiet (k.cycle (after k m events) i).thought ≡ true →
      k.lines (k.cycle (after k m events) i).mind ≡ k.lines (after k m events)

-- after a quiet cycle without a message nothing can be seen of a plain mind that was not so before it
abbrev pub QuietStays : {V : Type 0} → Kind V → Type 0
QuietStays {V} k = (v : View) (m : V) (i : Input) → IsPlain k m → is_quiet (k.cycle m i).thought ≡ true → i.message ≡ None → Alike k v (k.cycle m i).mind m
