-- The limits of the options.
use Rattle.std.specs.Prelude.{ℕ, ◌≤◌}
use Rattle.mas_mind.specs.Limits.{most_cycles, most_tries}
use Rattle.mas_mind.specs.declared.mind.Level.TheVariants.{Acts}
use Rattle.mas_report.specs.declared.options.Options.{Options}

-- from the first number to the second, both allowed
abbrev pub IsFrom : ℕ → ℕ → ℕ → Type 0
IsFrom low high n = (low ≤ n) × (n ≤ high)

-- a search goes at most so deep
abbrev pub most_depth : ℕ
most_depth = 10000

-- rule: each number is one that its option permits
pub record IsWithin (o : Options) : Type 0 where
  pub cycles : IsFrom 1 most_cycles o.cycles
  pub lead : IsFrom 1 1000 o.lead
  pub depth : IsFrom 1 most_depth o.depth
  pub tries : IsFrom 1 most_tries o.tries

-- rule: the options of a run that names none
abbrev pub defaults : Options
defaults = record { cycles = 1000; lead = 8; depth = 500; tries = 100000; level = Acts }
