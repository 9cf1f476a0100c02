-- What is told of the files of worlds and projects.
use Rattle.std.specs.Prelude.{◌≡◌, ℕ, Bool, true, false, List, [], Err}
use Rattle.env_file.specs.declared.fault.WorldFault.{WorldFault}
use Rattle.env_file.specs.declared.fault.WorldFault.TheVariants as world
use Rattle.env_file.specs.Worlds.{IsWorld, HasAnswer}
use Rattle.mas_world.specs.declared.acts.WorldText.{WorldText}
use Rattle.mas_project.specs.declared.fault.ProjectFault.{ProjectFault}
use Rattle.mas_project.specs.declared.fault.ProjectFault.TheVariants as project
use Rattle.mas_project.specs.declared.syntax.ProjectText.{ProjectText}
use Rattle.mas_project.specs.Projects.{IsProject, IsRefused}
use Rattle.look_pieces.specs.declared.findings.Finding.{Finding}
use Rattle.look_pieces.specs.Telling.{IsSome, TellsByte}

-- a fault of one of its pieces
abbrev pub is_of_piece : WorldFault → Bool
is_of_piece world.Memory = false
is_of_piece (world.Lex why) = false
is_of_piece why = true

-- memory lacked
abbrev pub is_lack : ProjectFault → Bool
is_lack project.Memory = true
is_lack why = false

-- What is told of a file, where it is read in one case and refused for a piece in the other, which has findings.
pub data Tells (IsRead IsRefused : Type 0) (bytes : List ℕ) (fs : List Finding) : Type 0 where
  read_told : IsRead → Tells IsRead IsRefused bytes fs
  refused_told : IsRefused → IsSome fs → Tells IsRead IsRefused bytes fs
  byte_told_of : TellsByte bytes fs → Tells IsRead IsRefused bytes fs

-- The bytes are the file of some world, where there are artifacts of these names, and nothing is told; or one of their pieces is refused.
abbrev pub TellsWorld : List (List ℕ) → List ℕ → List Finding → Type 0
TellsWorld known bytes fs =
    Tells (((w : WorldText) × IsWorld known bytes w) × (fs ≡ [])) ((why : WorldFault) × HasAnswer known bytes (Err why)) bytes fs

-- The bytes are the file of some project, of which the files that it lacks are told; or one of their pieces or their agents is refused.
abbrev pub TellsProject : List ℕ → List Finding → Type 0
TellsProject bytes fs = Tells ((p : ProjectText) × IsProject bytes p) ((why : ProjectFault) × IsRefused bytes why) bytes fs
