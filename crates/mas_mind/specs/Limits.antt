-- How long a mind may go on, and how long it may search.
use Rattle.std.specs.Prelude.{ℕ}

-- an agent makes at most so many cycles in a run
abbrev pub most_cycles : ℕ
most_cycles = 1000000

-- and all agents of a run together at most so many
abbrev pub most_cycles_together : ℕ
most_cycles_together = 2000000

-- one search tries at most so many heads of beliefs and rules
abbrev pub most_tries : ℕ
most_tries = 10000000
