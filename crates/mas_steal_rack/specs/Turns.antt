-- What a turn makes of an agent.
use Rattle.std.specs.Prelude.{◌≡◌, ℕ}
use Rattle.mas_steal_rack.specs.declared.turns.AgentTurned.{AgentTurned}
use Rattle.mas_steal_rack.specs.declared.turns.AgentTurned.TheVariants.{Again, Ahead, Ended as Done}

abbrev pub MatchTurned : {T : Type 0} → AgentTurned T → (T → Type 0) → (T → Type 0) → (T → Type 0) → Type 0
MatchTurned (Again x) again ahead done = again x
MatchTurned (Ahead x) again ahead done = ahead x
MatchTurned (Done x) again ahead done = done x

-- it has to wait for others
abbrev pub IsAhead : {T : Type 0} → AgentTurned T → Type 0
IsAhead turned = MatchTurned turned (λ _. ⊥) (λ _. Unit {0}) (λ _. ⊥)

-- the same agent, which waits again
pub record Went {T H : Type 0} (number : T → ℕ) (home_of : T → H) (is_ready : T → Type 0) (old new : T) : Type 0 where
  pub same : number new ≡ number old
  pub home : home_of new ≡ home_of old
  pub ready : is_ready new

-- the same agent, which has ended
pub record Ended {T : Type 0} (number : T → ℕ) (has_ended : T → Type 0) (old new : T) : Type 0 where
  pub same : number new ≡ number old
  pub ended : has_ended new
