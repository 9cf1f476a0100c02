-- The names of agents.
use Rattle.std.specs.Prelude.{◌≡◌, ℕ, ◌+◌, true, List, [], ◌∷◌, ◌++◌, map, length, Option, Some, None, if◌then◌else◌}
use Rattle.std.specs.List.{IsDistinct, list_any, flat_map, range_with_len}
use Rattle.std.specs.Str.{bytes_eq}
use Rattle.std.specs.Fmt.{decimal}
use Rattle.mas_project.specs.declared.syntax.AgentLine.{AgentLine}

-- the k-th agent of a line with a number
abbrev pub numbered_name : List ℕ → ℕ → List ℕ
numbered_name name k = name ++ decimal k

-- an agent has the name of its line, or that name and behind it the agent's number
abbrev pub names_in : AgentLine → List (List ℕ)
names_in line = if line.numbered then map (numbered_name line.name) (range_with_len 1 line.count) else line.name ∷ []

abbrev pub names_of : List AgentLine → List (List ℕ)
names_of lines = flat_map names_in lines

-- how many agents there are
abbrev pub agents_of : List AgentLine → ℕ
agents_of lines = length (names_of lines)

-- rule: the first name that an earlier agent has, and its place, counted from 1
pub record IsTwice (names : List (List ℕ)) (place : ℕ) (name : List ℕ) : Type 0 where
  pub before : List (List ℕ)
  pub behind : List (List ℕ)
  pub parts : names ≡ before ++ name ∷ behind
  pub count : place ≡ length before + 1
  pub distinct : IsDistinct bytes_eq before
  pub twice : list_any (bytes_eq name) before ≡ true

-- such a name, or that there is none
abbrev pub TellsTwice : List (List ℕ) → Option (ℕ × List ℕ) → Type 0
TellsTwice names None = IsDistinct bytes_eq names
TellsTwice names (Some x) = IsTwice names x.0 x.1
