-- The artifacts that the world of one project takes, and those that it leaves to that of another.
use Rattle.std.specs.Prelude.{ℕ, List, [], ◌∷◌, Option, None, Some}
use Rattle.mas_world.specs.declared.acts.WorldText.{WorldText}
use Rattle.mas_world.specs.Worlds.{Used}
use Rattle.mas_world.specs.inner.Artifacts.{without_named}

-- the names that a world uses
abbrev pub uses_of : Option WorldText → List (List ℕ)
uses_of None = []
uses_of (Some text) = text.uses

-- the artifacts but the first of each of these names
abbrev pub without_all : List (List ℕ) → List Used → List Used
without_all [] objects = objects
without_all (name ∷ names) objects = without_all names (without_named objects name)

abbrev pub left_by : Option WorldText → List Used → List Used
left_by world objects = without_all (uses_of world) objects
