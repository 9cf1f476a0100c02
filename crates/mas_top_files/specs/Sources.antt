-- What the files of a project describe, and which of them is refused first.
use Rattle.std.specs.Prelude.{ℕ, ◌≡◌, ◌⊎◌, ◌≤◌, ◌<◌, false, Bool, true, List, [], ◌∷◌, ◌++◌, length, replicate, Option, None, Some}
use Rattle.std.specs.List.{flat_map}
use Rattle.asl_term.specs.declared.syntax.AgentText.{AgentText}
use Rattle.asl_term.specs.declared.syntax.Filed.{Filed}
use Rattle.asl_parser.specs.Agents.{IsAgent}
use Rattle.mas_mind.specs.Limits.{most_cycles_together}
use Rattle.mas_world.specs.declared.acts.WorldText.{WorldText}
use Rattle.env_file.specs.Worlds.{IsWorld}
use Rattle.mas_project.specs.declared.syntax.AgentLine.{AgentLine}
use Rattle.mas_project.specs.declared.syntax.ProjectText.{ProjectText}
use Rattle.mas_project.specs.Names.{names_in, names_of}
use Rattle.mas_project.specs.Projects.{IsProject}
use Rattle.mas_top_files.specs.declared.sources.Role.{Role}
use Rattle.mas_top_files.specs.declared.sources.Source.{Source}
use Rattle.mas_top_status.specs.declared.status.Status.{Status}
use Rattle.mas_top_status.specs.declared.status.Status.TheVariants.{Limit, Memory}
use Rattle.mas_top_status.specs.declared.status.What.TheVariants as what
use Rattle.mas_top_files.specs.Projects.{folder, project_in, is_agent_file, solo_project, all_cycles}
use Rattle.mas_top_files.specs.Files.{most_bytes, HasFile, agents, worlds, projects, IsRefusal}

-- ---- what the files describe

-- the bytes are a project whose files stand in this folder
pub record IsProjectIn (directory bytes : List ℕ) (p : ProjectText) : Type 0 where
  pub written : ProjectText
  pub is : IsProject bytes written
  pub placed : p ≡ project_in directory written

-- the word stands for this project: it names an agent's file, or not
abbrev pub ProjectBy : Bool → Option (List Filed) → List ℕ → ProjectText → Type 0
ProjectBy true held word p = p ≡ solo_project word
ProjectBy false held word p = HasFile most_bytes held word (λ bytes. IsProjectIn (folder word) bytes p)

abbrev pub HasProject : Option (List Filed) → List ℕ → ProjectText → Type 0
HasProject held word p = ProjectBy (is_agent_file word) held word p

-- the world of the file of this name, where a file is named and there are artifacts of these names
abbrev pub HasWorld : List (List ℕ) → Option (List Filed) → Option (List ℕ) → Option WorldText → Type 0
HasWorld known held None None = Unit {0}
HasWorld known held None (Some text) = ⊥
HasWorld known held (Some name) None = ⊥
HasWorld known held (Some name) (Some text) = HasFile most_bytes held name (λ bytes. IsWorld known bytes text)

-- a line's file is the source of so many agents
pub record HasRole (held : Option (List Filed)) (line : AgentLine) (role : Role) : Type 0 where
  pub text : HasFile most_bytes held line.file (λ bytes. IsAgent bytes role.text)
  pub count : role.count ≡ length (names_in line)

-- each line's is
abbrev pub HasRoles : Option (List Filed) → List AgentLine → List Role → Type 0
HasRoles held [] [] = Unit {0}
HasRoles held (line ∷ lines) (role ∷ roles) = HasRole held line role × HasRoles held lines roles
HasRoles held [] (role ∷ roles) = ⊥
HasRoles held (line ∷ lines) [] = ⊥

-- The word stands for this project, whose agents may make no more cycles together than the limit, where each may make so many.
pub record IsAsked (cycles : ℕ) (held : Option (List Filed)) (word : List ℕ) (p : ProjectText) : Type 0 where
  pub stands : HasProject held word p
  pub few : all_cycles p cycles ≤ most_cycles_together

-- the files of the project describe this: the agents' names, the source of each line, and the world
pub record Describe (known : List (List ℕ)) (held : Option (List Filed)) (p : ProjectText) (source : Source) : Type 0 where
  pub names : source.names ≡ names_of p.agents
  pub world : HasWorld known held p.world source.world
  pub roles : HasRoles held p.agents source.roles

-- rule: the word stands for a project whose files describe this source
pub record HasSource (known : List (List ℕ)) (cycles : ℕ) (held : Option (List Filed)) (word : List ℕ) (source : Source) : Type 0 where
  pub project : ProjectText
  pub asked : IsAsked cycles held word project
  pub describe : Describe known held project source

-- the source of each agent: that of its line
abbrev pub texts_of : List Role → List AgentText
texts_of = flat_map (λ role. replicate role.count role.text)

-- ---- the first refusal: of the project, of its cycles, of the world, of an agent

pub record ProjectRefused (held : Option (List Filed)) (word : List ℕ) (before after : ℕ) (status : Status) : Type 0 where
  pub file : is_agent_file word ≡ false
  pub why : IsRefusal projects word held before after status

-- its agents may make too many cycles together
pub record CyclesRefused (cycles : ℕ) (held : Option (List Filed)) (word : List ℕ) (status : Status) : Type 0 where
  pub project : ProjectText
  pub stands : HasProject held word project
  pub past : most_cycles_together < all_cycles project cycles
  pub status_is : status ≡ Limit what.Cycles (all_cycles project cycles)

-- the file of the world of this name is refused
pub record WorldRefused (known : List (List ℕ)) (named : Option (List ℕ)) (held : Option (List Filed)) (before after : ℕ) (status : Status) : Type 0 where
  pub name : List ℕ
  pub named_is : named ≡ Some name
  pub why : IsRefusal (worlds known) name held before after status

-- the file of a line is refused, and those of the lines before it are not
pub record LineRefused (held : Option (List Filed)) (lines : List AgentLine) (before after : ℕ) (status : Status) : Type 0 where
  pub front : List AgentLine
  pub roles : List Role
  pub line : AgentLine
  pub back : List AgentLine
  pub lines_are : lines ≡ front ++ line ∷ back
  pub read : HasRoles held front roles
  pub why : IsRefusal agents line.file held before after status

-- the world is read, and a line is refused
pub record AgentRefused (known : List (List ℕ)) (p : ProjectText) (held : Option (List Filed)) (before after : ℕ) (status : Status) : Type 0 where
  pub world : Option WorldText
  pub read : HasWorld known held p.world world
  pub why : LineRefused held p.agents before after status

abbrev pub PartRefused : List (List ℕ) → ProjectText → Option (List Filed) → ℕ → ℕ → Status → Type 0
PartRefused known p held before after status = WorldRefused known p.world held before after status ⊎ AgentRefused known p held before after status

-- rule: the first file that is refused, where there are artifacts of these names, and the status of that
pub data FirstRefused (known : List (List ℕ)) (cycles : ℕ) (held : Option (List Filed)) (word : List ℕ) (before after : ℕ) (status : Status) : Type 0 where
  project_refused : ProjectRefused held word before after status → FirstRefused known cycles held word before after status
  cycles_refused : CyclesRefused cycles held word status → FirstRefused known cycles held word before after status
  part_refused : (p : ProjectText) → IsAsked cycles held word p → PartRefused known p held before after status
      → FirstRefused known cycles held word before after status

-- what is told where memory may lack anywhere
abbrev pub UnlessMemory : (Status → Type 0) → Status → Type 0
UnlessMemory Is Memory = Unit {0}
UnlessMemory Is status = Is status

abbrev pub AreRefused : List (List ℕ) → ℕ → Option (List Filed) → List ℕ → ℕ → ℕ → Status → Type 0
AreRefused known cycles held word before after status = UnlessMemory (FirstRefused known cycles held word before after) status

-- whether the agents of a project may make too many cycles together, and its status then
abbrev pub CyclesTold : ProjectText → ℕ → Option Status → Type 0
CyclesTold p cycles None = all_cycles p cycles ≤ most_cycles_together
CyclesTold p cycles (Some status) = (most_cycles_together < all_cycles p cycles) × (status ≡ Limit what.Cycles (all_cycles p cycles))
