-- What is told of lists of agents.
use Rattle.std.specs.Prelude.{◌≡◌, ℕ, ◌+◌, List, map}
use Rattle.mas_board_lists.specs.Lists.{times}

-- the agents of the third list are those of the first two, each as often
abbrev pub Adds : {T : Type 0} → (T → ℕ) → List T → List T → List T → Type 0
Adds number xs ys zs = (a : ℕ) → times a (map number zs) ≡ times a (map number xs) + times a (map number ys)
