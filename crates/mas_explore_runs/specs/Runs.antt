-- Runs along plans.
use Rattle.std.specs.Prelude.{ℕ, List, []}
use Rattle.mas_mind.specs.Minds.{Kind}
use Rattle.mas_board.specs.Boards.{State}
use Rattle.mas_core.specs.Platform.{Platform}
use Rattle.mas_free.specs.declared.view.View.{View}
use Rattle.mas_free.specs.Covers.{Start}
use Rattle.mas_explore.specs.declared.listing.Plan.{Plan}
use Rattle.mas_explore.specs.Listings.{IsRunOf}

-- a platform of which no agent has a thought
abbrev pub platform_of : {V : Type 0} → State → List V → Platform V
platform_of board minds = record { board = board; minds = minds; thoughts = [] }

-- along this plan there is no run that has an outcome: its limits are those of no board, its schedule is not legal or does not end every agent, or one
-- of them has to leave for the limit of cycles
abbrev pub HasNoRun : {V : Type 0} → Kind V → View → Start V → Plan → Type 0
HasNoRun k v s p = (text : List ℕ) → IsRunOf k v s p text → ⊥
