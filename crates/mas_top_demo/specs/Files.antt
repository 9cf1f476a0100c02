-- The project of the demo: so many agents that add their numbers to one tally, each fifty times.
use Rattle.std.specs.Prelude.{ℕ, List, ◌∷◌, ◌++◌, map, codes, decimal, flat_map}
use Rattle.std.specs.List.{range_with_len}
use Rattle.asl_term.specs.declared.syntax.Filed.{Filed}

-- ---- the agent of a number

-- the file of a number's agent without its ending, which is also the agent's name
abbrev pub agent_name : ℕ → List ℕ
agent_name i = codes "w" ++ decimal i

-- what stands before the number and behind it
unfoldable pub source_front : List ℕ
source_front = codes "!go(50).\n+!go(0) <- .print(\"ready\").\n+!go(N) : N > 0 <- tally_add("

unfoldable pub source_back : List ℕ
source_back = codes "); !go(N - 1).\n"

abbrev pub agent_source : ℕ → List ℕ
agent_source i = source_front ++ (decimal i ++ source_back)

abbrev pub agent_file : ℕ → Filed
agent_file i = record { name = agent_name i ++ codes ".asl"; bytes = agent_source i }

-- ---- the world and the project

unfoldable pub world_source : List ℕ
world_source = codes "use tally.\nhide tally.\n"

abbrev pub world_file : Filed
world_file = record { name = codes "demo.env"; bytes = world_source }

unfoldable pub project_front : List ℕ
project_front = codes "MAS demo { environment: demo agents:"

-- ` wI;`
abbrev pub entry_text : ℕ → List ℕ
entry_text i = codes " " ++ (agent_name i ++ codes ";")

unfoldable pub project_back : List ℕ
project_back = codes " }\n"

abbrev pub project_source : ℕ → List ℕ
project_source k = project_front ++ (flat_map entry_text (range_with_len 1 k) ++ project_back)

abbrev pub project_file : ℕ → Filed
project_file k = record { name = codes "demo.mas2j"; bytes = project_source k }

-- ---- the whole

-- the project, its world, and the agents by their numbers
abbrev pub demo_files : ℕ → List Filed
demo_files k = project_file k ∷ world_file ∷ map agent_file (range_with_len 1 k)
