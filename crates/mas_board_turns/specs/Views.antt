-- The turns of the agents of one view.
use Rattle.std.specs.Prelude.{ℕ, zero, suc, Bool, false, Option, None, Some, List, [], ◌∷◌, ◌++◌}
use Rattle.mas_board_turns.specs.declared.turn.Turn.{Turn}
use Rattle.mas_world.specs.Worlds.{segment, world}
use Rattle.mas_board.specs.Boards.{Noted, opening}

-- of each agent its turns
abbrev pub Turns : Type 0
Turns = List (ℕ × List Turn)

abbrev pub numbers : Turns → List ℕ
numbers [] = []
numbers (e ∷ es) = e.0 ∷ numbers es

-- n agents from k on, with no turn yet
abbrev pub silent : ℕ → ℕ → Turns
silent k zero = []
silent k (suc n) = (k, []) ∷ silent (suc k) n

-- the first agent's turns, and one more where one was made
abbrev pub noted : Option Turn → Turns → Turns
noted None es = es
noted (Some t) [] = []
noted (Some t) (e ∷ es) = (e.0, e.1 ++ t ∷ []) ∷ es

-- what stands in a view that has not met a board
abbrev pub no_board : Noted
no_board = record { state = opening [] (world (segment [] []) [] []) 0 0; schedule = []; halted = false }

-- how it stood when the board came: the board; and, where a journal on a disk lies in the queue beside the board, whether the disk
-- tells of its files, the name of the picked one, the count of faults and the moment
pub record Opening : Type 0 where
  pub board : Noted
  pub told : Bool
  pub picked : Option (List ℕ)
  pub faults : ℕ
  pub moment : ℕ

-- a board without a disk
abbrev pub bare : Noted → Opening
bare x = record { board = x; told = false; picked = None; faults = 0; moment = 0 }

abbrev pub no_opening : Opening
no_opening = bare no_board
