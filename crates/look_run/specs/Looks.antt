-- A look at a run.
use Rattle.std.specs.Prelude.{ℕ, ◌≡◌, List, length, take, Some}
use Rattle.mas_mind.specs.Minds.{Kind}
use Rattle.mas_core.specs.Platform.{Platform, run}
use Rattle.look_run.specs.Views.{asked, view}

-- what is written is the text of this agent's part of the platform, stepped along the first t of these turns
pub record IsView {V : Type 0} (k : Kind V) (parts : List (List ℕ) → V → List ℕ) (p : Platform V) (turns name : List ℕ)
    (a t : ℕ) (w : List ℕ) : Type 0 where
  pub there : Platform V
  pub ran : run k p (take t turns) ≡ Some there
  pub is : w ≡ view k parts there (asked name a t (length turns))
