-- The order in which the turns of a run are made.
use Rattle.std.specs.Prelude.{ℕ, ◌≡◌, ◌==◌, true, List, Some, if◌then◌else◌}
use Rattle.mas_mind.specs.Minds.{Kind}
use Rattle.mas_core.specs.Platform.{Platform, run, ended}
use Rattle.mas_core.specs.Robin.{turns}

-- that of the round robin, any that is legal, or that of these agents' numbers
pub data Way : Type 0 where
  alone : Way
  shared : Way
  along : List ℕ → Way

-- one worker goes round, and several take their turns as it comes
abbrev pub way_of : ℕ → Way
way_of workers = if workers == 1 then alone else shared

-- the turns from p are made in this order
abbrev pub IsScheduled : {V : Type 0} → Kind V → Platform V → Way → List ℕ → Type 0
IsScheduled k p alone names = names ≡ turns k p
IsScheduled k p shared names = Unit {0}
IsScheduled k p (along given) names = names ≡ given

-- each of the numbers has its turn, and every agent leaves
pub record Leads {V : Type 0} (k : Kind V) (p : Platform V) (names : List ℕ) : Type 0 where
  pub done : Platform V
  pub ran : run k p names ≡ Some done
  pub ended : ended done.board.seats ≡ true
