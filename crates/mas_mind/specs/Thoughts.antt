-- One cycle of a mind, over any meaning V of minds.
use Rattle.std.specs.Prelude.{◌≡◌}
use Rattle.mas_mind.specs.declared.mind.Input.{Input}
use Rattle.mas_mind.specs.declared.mind.Thought.{Thought}
use Rattle.mas_mind.specs.Minds.{Kind, AreLawful}

-- the mind made a cycle on the input: what it is after it, and its thought
pub record Thinks {V : Type 0} (k : Kind V) (mind : V) (input : Input) (after : V) (t : Thought) : Type 0 where
  pub mind_is : after ≡ (k.cycle mind input).mind
  pub thought : t ≡ (k.cycle mind input).thought
  pub lawful : AreLawful (k.me mind) (k.agents mind) t
