-- Artifacts that are taken out by their names.
use Rattle.std.specs.Prelude.{ℕ, if◌then◌else◌, List, [], ◌∷◌}
use Rattle.std.specs.Str.{bytes_eq}
use Rattle.mas_world.specs.Worlds.{Used}

-- the others than the first of this name
abbrev pub without_named : List Used → List ℕ → List Used
without_named [] name = []
without_named (u ∷ more) name = if bytes_eq u.name name then more else u ∷ without_named more name
