-- What is told of the files of worlds and projects.
use Rattle.std.proofs.Common.{◌≡◌, ℕ, true, false, List, [], Err, refl}
use Rattle.env_file.specs.declared.fault.WorldFault.{WorldFault}
use Rattle.env_file.specs.declared.fault.WorldFault.TheVariants as world
use Rattle.env_file.specs.Worlds.{IsWorld, HasAnswer, IsNone}
use Rattle.mas_world.specs.declared.acts.WorldText.{WorldText}
use Rattle.mas_project.specs.declared.fault.ProjectFault.{ProjectFault}
use Rattle.mas_project.specs.declared.fault.ProjectFault.TheVariants as project
use Rattle.mas_project.specs.declared.syntax.ProjectText.{ProjectText}
use Rattle.mas_project.specs.Projects.{IsProject, IsRefused}
use Rattle.mas_project.specs.Projects as projects
use Rattle.look_pieces.specs.declared.findings.Finding.{Finding}
use Rattle.look_pieces.specs.Telling.{IsSome, TellsByte}
use Rattle.look_where.specs.Others.{is_of_piece, is_lack, read_told, refused_told, byte_told_of, TellsWorld, TellsProject}

pub world_read : (known : List (List ℕ)) (bytes : List ℕ) (text : WorldText) → IsWorld known bytes text → TellsWorld known bytes []
world_read known bytes text w = read_told ((text, w), refl)

of_piece : (known : List (List ℕ)) (bytes : List ℕ) (why : WorldFault) → IsNone known bytes why → is_of_piece why ≡ true → HasAnswer known bytes (Err why)
of_piece known bytes world.Memory h e = absurd cc
of_piece known bytes (world.Lex why) h e = absurd cc
of_piece known bytes (world.Clause number line column) h e = h
of_piece known bytes (world.Limit number) h e = h
of_piece known bytes (world.Unbound number name) h e = h
of_piece known bytes (world.UnknownArtifact number name) h e = h

pub world_refused : (known : List (List ℕ)) (bytes : List ℕ) (why : WorldFault) (fs : List Finding) → IsNone known bytes why → is_of_piece why ≡ true → IsSome fs →
    TellsWorld known bytes fs
world_refused known bytes why fs h e s = refused_told (why, of_piece known bytes why h e) s

pub world_bytes : (known : List (List ℕ)) (bytes : List ℕ) (fs : List Finding) → TellsByte bytes fs → TellsWorld known bytes fs
world_bytes known bytes fs h = byte_told_of h

pub project_stands : (bytes : List ℕ) (p : ProjectText) (fs : List Finding) → IsProject bytes p → TellsProject bytes fs
project_stands bytes p fs h = read_told (p, h)

is_refused : (bytes : List ℕ) (why : ProjectFault) → projects.IsNone bytes why → is_lack why ≡ false → IsRefused bytes why
is_refused bytes project.Memory h e = absurd cc
is_refused bytes (project.Lex why) h e = h
is_refused bytes (project.Clause number line column) h e = h
is_refused bytes (project.Option number word) h e = h
is_refused bytes (project.TooMany count) h e = h
is_refused bytes (project.TwoNames place name) h e = h

pub project_refused : (bytes : List ℕ) (why : ProjectFault) (fs : List Finding) → projects.IsNone bytes why → is_lack why ≡ false → IsSome fs → TellsProject bytes fs
project_refused bytes why fs h e s = refused_told (why, is_refused bytes why h e) s

pub project_bytes : (bytes : List ℕ) (fs : List Finding) → TellsByte bytes fs → TellsProject bytes fs
project_bytes bytes fs h = byte_told_of h
