-- What is told of the files of a project.
use Rattle.std.specs.Prelude.{◌≡◌, ℕ, Bool, true, false, not, ◌&&◌, List, [], ◌∷◌, ◌++◌, map, Option, Some, None, if◌then◌else◌}
use Rattle.std.specs.List.{list_any}
use Rattle.std.specs.Option.{option_to_list}
use Rattle.std.specs.Str.{bytes_eq}
use Rattle.asl_term.specs.declared.syntax.Filed.{Filed}
use Rattle.mas_project.specs.declared.syntax.AgentLine.{AgentLine}
use Rattle.mas_project.specs.declared.syntax.ProjectText.{ProjectText}
use Rattle.mas_io.specs.Causes.{Rose}
use Rattle.mas_io.specs.declared.shelf.Fetched.TheVariants.{Missing as Lacks, TooLong}
use Rattle.mas_top_files.specs.Files.{Has, HasFile, most_bytes}
use Rattle.mas_top_files.specs.Projects.{is_agent_file}
use Rattle.mas_top_files.specs.Sources.{HasProject, ProjectRefused}
use Rattle.mas_top_status.specs.declared.status.Status.{Status}
use Rattle.mas_top_status.specs.declared.status.Status.TheVariants.{Memory}
use Rattle.look_pieces.specs.declared.findings.Finding.{Finding}
use Rattle.look_pieces.specs.Telling.{TellsAgent}
use Rattle.look_where.specs.declared.files.FileKind.{FileKind}
use Rattle.look_where.specs.declared.files.FileKind.TheVariants.{Project, World, Agent}
use Rattle.look_where.specs.declared.files.FileTold.{FileTold}
use Rattle.look_where.specs.declared.files.Wanted.{Wanted}
use Rattle.look_where.specs.Others.{TellsWorld, TellsProject}

abbrev pub kind_of : Bool → FileKind
kind_of world = if world then World else Agent

-- memory lacked
abbrev pub is_lack : Status → Bool
is_lack Memory = true
is_lack status = false

-- ---- the files that a project names

abbrev pub wanted : Bool → List ℕ → Wanted
wanted world name = record { name = name; world = world }

abbrev pub is_of_agent : List ℕ → Wanted → Bool
is_of_agent name w = not w.world && bytes_eq name w.name

-- a file of an agent more, each once
abbrev pub with_agent : List Wanted → List ℕ → List Wanted
with_agent ws name = if list_any (is_of_agent name) ws then ws else ws ++ wanted false name ∷ []

abbrev pub with_agents : List Wanted → List AgentLine → List Wanted
with_agents ws [] = ws
with_agents ws (line ∷ lines) = with_agents (with_agent ws line.file) lines

abbrev pub worlds_wanted : Option (List ℕ) → List Wanted
worlds_wanted world = map (wanted true) (option_to_list world)

-- that of its world, and then those of its agents
abbrev pub wanted_of : ProjectText → List Wanted
wanted_of p = with_agents (worlds_wanted p.world) p.agents

-- ---- what is told of one

-- by the reader of the file's kind, where there are artifacts of these names
abbrev pub TellsBytes : List (List ℕ) → FileKind → List ℕ → List Finding → Type 0
TellsBytes known Project bytes fs = TellsProject bytes fs
TellsBytes known World bytes fs = TellsWorld known bytes fs
TellsBytes known Agent bytes fs = TellsAgent bytes fs

-- the file has bytes of which this is told
abbrev pub TellsFile : List (List ℕ) → Option (List Filed) → FileTold → Type 0
TellsFile known held t = HasFile most_bytes held t.name (λ bytes. TellsBytes known t.kind bytes t.findings)

-- the file of this kind and name is told so
pub record TellsNamed (known : List (List ℕ)) (held : Option (List Filed)) (kind : FileKind) (name : List ℕ) (t : FileTold) : Type 0 where
  pub kind_is : t.kind ≡ kind
  pub named : t.name ≡ name
  pub told : TellsFile known held t

-- the file of this name is not there to be read; it may be that reading failed
pub data IsLacking (held : Option (List Filed)) (before after : ℕ) (name : List ℕ) : Type 0 where
  not_there : Has most_bytes held name Lacks → IsLacking held before after name
  too_large : Has most_bytes held name TooLong → IsLacking held before after name
  unread : Rose before after → IsLacking held before after name

-- what is told of a wanted file, where it is there to be read
abbrev pub TellsOne : List (List ℕ) → Option (List Filed) → ℕ → ℕ → Wanted → Option FileTold → Type 0
TellsOne known held before after w None = IsLacking held before after w.name
TellsOne known held before after w (Some t) = TellsNamed known held (kind_of w.world) w.name t

-- what is told of a wanted file goes last, where it is there to be read
pub record PutsOne (known : List (List ℕ)) (held : Option (List Filed)) (before after : ℕ) (w : Wanted) (ts us : List FileTold) : Type 0 where
  pub told : Option FileTold
  pub tells : TellsOne known held before after w told
  pub put : us ≡ ts ++ option_to_list told

-- ---- what is told of all

-- Each of the wanted files is told, in their order, and there are no others. Those that are not there to be read are left out.
pub data AreTold (known : List (List ℕ)) (held : Option (List Filed)) (before after : ℕ) : List Wanted → List FileTold → Type 0 where
  none_wanted : AreTold known held before after [] []
  one_told : {w : Wanted} {ws : List Wanted} {t : FileTold} {ts : List FileTold} → TellsNamed known held (kind_of w.world) w.name t
      → AreTold known held before after ws ts → AreTold known held before after (w ∷ ws) (t ∷ ts)
  one_lacks : {w : Wanted} {ws : List Wanted} {ts : List FileTold} → IsLacking held before after w.name
      → AreTold known held before after ws ts → AreTold known held before after (w ∷ ws) ts

-- These are the files that the project names, all of them. Where its own file is refused they are some.
pub data AreWanted (held : Option (List Filed)) (word : List ℕ) (before after : ℕ) (ws : List Wanted) : Type 0 where
  all_wanted : (p : ProjectText) → HasProject held word p → ws ≡ wanted_of p → AreWanted held word before after ws
  some_wanted : (status : Status) → ProjectRefused held word before after status → AreWanted held word before after ws

-- These are the files of the project, all that it names. Where the project's own file is refused they are some.
pub data AreOthers (known : List (List ℕ)) (held : Option (List Filed)) (word : List ℕ) (before after : ℕ) (files : List FileTold) : Type 0 where
  all_told : (p : ProjectText) → HasProject held word p → AreTold known held before after (wanted_of p) files → AreOthers known held word before after files
  some_told : (status : Status) → ProjectRefused held word before after status → (ws : List Wanted) → AreTold known held before after ws files
      → AreOthers known held word before after files

-- The word names the source of an agent, which is told alone; or the file of a project, which is told first.
pub data TellFiles (known : List (List ℕ)) (held : Option (List Filed)) (word : List ℕ) (before after : ℕ) : List FileTold → Type 0 where
  source_told : {t : FileTold} → is_agent_file word ≡ true → TellsNamed known held Agent word t → TellFiles known held word before after (t ∷ [])
  project_told : {t : FileTold} {ts : List FileTold} → is_agent_file word ≡ false → TellsNamed known held Project word t
      → AreOthers known held word before after ts → TellFiles known held word before after (t ∷ ts)
