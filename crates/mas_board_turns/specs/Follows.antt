-- Turns that are kept, as a mind goes through them, over any meaning V of minds.
use Rattle.std.specs.Prelude.{◌≡◌, List, [], ◌∷◌, Option, None, Some}
use Rattle.mas_mind.specs.declared.mind.Feedback.{Feedback}
use Rattle.mas_mind.specs.declared.mind.Thought.{Thought}
use Rattle.mas_mind.specs.declared.mind.Thought.TheVariants.{Outs as Acts, Spent}
use Rattle.mas_mind.specs.Minds.{Kind}
use Rattle.mas_board_turns.specs.declared.turn.Turn.{Turn}
use Rattle.mas_board_turns.specs.declared.turn.Turn.TheVariants.{Sensed, Left, Emitted, Gone}

-- a mind, and while its agent is busy the thought of its last cycle
pub record Thinking (V : Type 0) : Type 0 where
  pub mind : V
  pub thought : Option Thought

abbrev pub resting : {V : Type 0} → V → Thinking V
resting m = record { mind = m; thought = None }

abbrev pub thinking : {V : Type 0} → V → Thought → Thinking V
thinking m t = record { mind = m; thought = Some t }

-- the mind is told what became of its action, where there was one
abbrev pub told : {V : Type 0} → Kind V → V → Option Feedback → V
told k m None = m
told k m (Some feedback) = k.took m feedback

-- what a turn is to a mind: an input is one cycle; outs are those of its thought, and the feedback is kept; a spent thought
-- is followed by nothing but its agent's going; nothing else is a turn of this mind
abbrev pub Takes : {V : Type 0} → Kind V → V → Option Thought → Turn → Thinking V → Type 0
Takes k m None (Sensed input) n = n ≡ thinking (k.cycle m input).mind (k.cycle m input).thought
Takes k m None (Left end) n = n ≡ resting m
Takes k m (Some (Acts outs)) (Emitted given feedback) n = (given ≡ outs) × (n ≡ resting (told k m feedback))
Takes k m (Some Spent) Gone n = n ≡ resting m
Takes k m thought turn n = ⊥

-- the mind goes through these turns, and comes to be so
abbrev pub Follows : {V : Type 0} → Kind V → Thinking V → List Turn → Thinking V → Type 0
Follows k m [] n = n ≡ m
Follows {V} k m (turn ∷ turns) n = (next : Thinking V) × Takes k m.mind m.thought turn next × Follows k next turns n
