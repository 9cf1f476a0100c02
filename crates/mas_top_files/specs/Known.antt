-- The names that a world may use: those of the artifacts.
use Rattle.std.specs.Prelude.{ℕ, List, [], ◌∷◌}
use Rattle.asl_term.specs.Names.{with_name}
use Rattle.mas_world.specs.Worlds.{Used}

-- these names, and then those of the artifacts that are not among them
abbrev pub known_after : List (List ℕ) → List Used → List (List ℕ)
known_after names [] = names
known_after names (u ∷ us) = known_after (with_name names u.name) us

-- the names of the artifacts, each once, in the order of the artifacts
abbrev pub known : List Used → List (List ℕ)
known = known_after []
