-- What the search for an applicable plan promises itself.
use Rattle.std.specs.Prelude.{ℕ, ◌≤◌, Option, None, Some}
use Rattle.asl_exec_choose.specs.declared.chosen.Chosen.{Chosen}
use Rattle.asl_exec_choose.specs.declared.chosen.Chosen.TheVariants as chosen

-- the next fresh number is at most that
abbrev pub ChosenAtMost : ℕ → Chosen → Type 0
ChosenAtMost most (chosen.Plan m s n) = n ≤ most
ChosenAtMost most other = Unit {0}

-- what is decided, or the rest
abbrev pub or_else : Option Chosen → Chosen → Chosen
or_else None rest = rest
or_else (Some x) rest = x
