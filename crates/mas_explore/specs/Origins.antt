-- What runs of the platform ask of their start, over any meaning V of minds.
use Rattle.std.specs.Prelude.{ℕ, ◌≡◌, ◌-◌, ◌<◌, ◌^◌, Bool, false, length, slice_get, Some}
use Rattle.mas_mind.specs.Minds.{Kind, IsAgent}
use Rattle.mas_free.specs.Covers.{Start, IsStart}

-- a mind of this agent, one of so many: it has made no cycle and waits for nothing
pub record IsFresh {V : Type 0} (k : Kind V) (agents a : ℕ) (m : V) : Type 0 where
  pub me : k.me m ≡ a
  pub agents_are : k.agents m ≡ agents
  pub made : k.made m ≡ 0
  pub awaits : k.awaits m ≡ false

-- not too many agents, and a mind for each name, which is plain, that agent's and fresh
pub record IsOrigin {V : Type 0} (k : Kind V) (s : Start V) : Type 0 where
  pub few : length s.names < 2 ^ 16
  pub start : IsStart k s
  pub fresh : (a : ℕ) (m : V) → IsAgent (length s.names) a → slice_get s.minds (a - 1) ≡ Some m → IsFresh k (length s.names) a m
