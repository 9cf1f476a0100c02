-- What the word of a project stands for.
use Rattle.std.specs.Prelude.{ℕ, ◌*◌, Bool, false, List, [], ◌∷◌, ◌++◌, map, codes, nat_eq, if◌then◌else◌, None, option_map}
use Rattle.std.specs.List.{ends_with, list_any}
use Rattle.mas_project.specs.declared.syntax.AgentLine.{AgentLine}
use Rattle.mas_project.specs.declared.syntax.ProjectText.{ProjectText}
use Rattle.mas_project.specs.Names.{agents_of}

-- a word up to its last `/`, with it; nothing where it has none
abbrev pub folder : List ℕ → List ℕ
folder [] = []
folder (b ∷ bs) = if list_any (nat_eq 47) (b ∷ bs) then b ∷ folder bs else []

-- the names of a project's files, in a folder
abbrev pub line_in : List ℕ → AgentLine → AgentLine
line_in directory line = record { name = line.name; file = directory ++ line.file; count = line.count; numbered = line.numbered }

abbrev pub project_in : List ℕ → ProjectText → ProjectText
project_in directory p = record { name = p.name; world = option_map (λ file. directory ++ file) p.world; agents = map (line_in directory) p.agents }

-- a word that ends in `.asl` names the file of an agent
abbrev pub is_agent_file : List ℕ → Bool
is_agent_file word = ends_with nat_eq word (codes ".asl")

abbrev pub solo : List ℕ
solo = codes "solo"

-- rule: a word that ends in `.asl` stands for a project of one agent, without a world
abbrev pub solo_project : List ℕ → ProjectText
solo_project word = record { name = solo; world = None; agents = record { name = solo; file = word; count = 1; numbered = false } ∷ [] }

-- ---- its cycles

-- rule: how many cycles its agents may make together, where each may make so many
abbrev pub all_cycles : ProjectText → ℕ → ℕ
all_cycles p cycles = agents_of p.agents * cycles
