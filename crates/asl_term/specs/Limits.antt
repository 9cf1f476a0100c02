-- How large the trees of an agent may be.
use Rattle.std.specs.Prelude.{ℕ}

-- a term, a literal or a formula has at most so many nodes
abbrev pub most_nodes : ℕ
most_nodes = 10000

-- and at most so many levels
abbrev pub most_levels : ℕ
most_levels = 250
