-- What a single file gives: what its bytes describe, or a refusal.
use Rattle.std.specs.Prelude.{ℕ, ◌≡◌, List, Option, IfSome}
use Rattle.asl_term.specs.declared.syntax.Filed.{Filed}
use Rattle.asl_parser_expr.specs.declared.fault.TextFault.{TextFault}
use Rattle.asl_parser.specs.Agents.{IsNone as IsNoAgent}
use Rattle.env_file.specs.declared.fault.WorldFault.{WorldFault}
use Rattle.env_file.specs.Worlds.{IsNone as IsNoWorld}
use Rattle.mas_project.specs.declared.fault.ProjectFault.{ProjectFault}
use Rattle.mas_project.specs.Projects.{IsNone as IsNoProject}
use Rattle.mas_io.specs.Causes.{Rose}
use Rattle.mas_io.specs.Shelf.{fetched}
use Rattle.mas_io.specs.declared.shelf.Fetched.{Fetched}
use Rattle.mas_io.specs.declared.shelf.Fetched.TheVariants.{Bytes, Missing as Lacks, TooLong}
use Rattle.mas_top_status.specs.declared.status.What.TheVariants as what
use Rattle.mas_top_status.specs.declared.status.Status.{Status}
use Rattle.mas_top_status.specs.declared.status.Status.TheVariants.{Missing, ReadFault, Limit, Memory}
use Rattle.mas_top_files.specs.Faults.{text_status, world_status, project_status}

-- the most bytes of the file of a project, a world or an agent
abbrev pub most_bytes : ℕ
most_bytes = 1048576

-- the most bytes of the file of a report or of a schedule
abbrev pub most_report_bytes : ℕ
most_report_bytes = 268435456

-- the shelf, where it tells what it holds, answers this where the file of the name may have so many bytes
abbrev pub Has : ℕ → Option (List Filed) → List ℕ → Fetched → Type 0
Has most held name answer = IfSome held (λ files. answer ≡ fetched files name most)

-- the file of this name has such bytes, at most so many
pub record HasFile (most : ℕ) (held : Option (List Filed)) (name : List ℕ) (Are : List ℕ → Type 0) : Type 0 where
  pub bytes : List ℕ
  pub has : Has most held name (Bytes bytes)
  pub are : Are bytes

-- ---- the readers

-- The most bytes of a file, the faults that its bytes may have, which of them they have, where want of memory is free, and
-- the status of each for the file of a name.
pub record Reader : Type 1 where
  pub most : ℕ
  pub Fault : Type 0
  pub faulty : List ℕ → Fault → Type 0
  pub status_of : List ℕ → Fault → Status

abbrev pub agents : Reader
agents = record { most = most_bytes; Fault = TextFault; faulty = IsNoAgent; status_of = text_status }

-- that of a world, where there are artifacts of these names
abbrev pub worlds : List (List ℕ) → Reader
worlds known = record { most = most_bytes; Fault = WorldFault; faulty = IsNoWorld known; status_of = world_status }

abbrev pub projects : Reader
projects = record { most = most_bytes; Fault = ProjectFault; faulty = IsNoProject; status_of = project_status }

-- ---- why a file is refused

-- Why its bytes are not there: the shelf holds that, and has failed so often before and after; want of memory alone is
-- free.
pub data IsUnfetched (most : ℕ) (name : List ℕ) (held : Option (List Filed)) (before after : ℕ) (status : Status) : Type 0 where
  missing : status ≡ Missing name → Has most held name Lacks → IsUnfetched most name held before after status
  too_long : status ≡ Limit what.File most → Has most held name TooLong → IsUnfetched most name held before after status
  failed : status ≡ ReadFault → Rose before after → IsUnfetched most name held before after status
  starved : status ≡ Memory → IsUnfetched most name held before after status

-- the status is that of a fault that is there
pub record HasFault {Fault : Type 0} (Is : Fault → Type 0) (status_of : Fault → Status) (status : Status) : Type 0 where
  pub why : Fault
  pub is : Is why
  pub status_is : status ≡ status_of why

-- why the file of this name is refused: its bytes are not there, or have a fault
pub data IsRefusal (r : Reader) (name : List ℕ) (held : Option (List Filed)) (before after : ℕ) (status : Status) : Type 0 where
  unfetched : IsUnfetched r.most name held before after status → IsRefusal r name held before after status
  faulty : HasFault (λ why. HasFile r.most held name (λ bytes. r.faulty bytes why)) (r.status_of name) status
      → IsRefusal r name held before after status
