-- The file of a project: what its pieces say together, and which refusal comes first.
use Rattle.std.specs.Prelude.{◌≡◌, ℕ, ◌-◌, ◌<◌, ◌≤◌, ◌^◌, List, [], ◌∷◌, ◌++◌, min, Some, None, Result, Ok, Err}
use Rattle.std.specs.List.{IsDistinct}
use Rattle.std.specs.Option.{option_map_or, is_some}
use Rattle.std.specs.Str.{bytes_eq}
use Rattle.asl_lexer.specs.declared.token.Tok.{Tok}
use Rattle.asl_lexer.specs.declared.token.LexFault.{LexFault}
use Rattle.asl_lexer.specs.Lexing.{AreTokens, IsFirstFault}
use Rattle.mas_project.specs.declared.piece.AgentEntry.{AgentEntry}
use Rattle.mas_project.specs.declared.piece.PieceMeaning.{PieceMeaning}
use Rattle.mas_project.specs.declared.piece.PieceMeaning.TheVariants as said
use Rattle.mas_project.specs.declared.piece.NextPiece.TheVariants as turn
use Rattle.mas_project.specs.declared.syntax.AgentLine.{AgentLine}
use Rattle.mas_project.specs.declared.syntax.ProjectText.{ProjectText}
use Rattle.mas_project.specs.declared.fault.ProjectFault.{ProjectFault}
use Rattle.mas_project.specs.declared.fault.ProjectFault.TheVariants as fault
use Rattle.mas_project.specs.Pieces.{pieces, ReadsAll}
use Rattle.mas_project.specs.Names.{names_of, agents_of, IsTwice}
use Rattle.mas_project.specs.Faults.{UnlessMemory, FirstRefused}

-- ---- what the pieces say together

-- an entry without a number is one agent
abbrev pub count_of : AgentEntry → ℕ
count_of entry = option_map_or (λ n. n) entry.count 1

abbrev pub line_of : AgentEntry → AgentLine
line_of entry = record { name = entry.name; file = entry.file; count = count_of entry; numbered = is_some entry.count }

abbrev pub with_entry : ProjectText → AgentEntry → ProjectText
with_entry p entry = record { name = p.name; world = p.world; agents = p.agents ++ line_of entry ∷ [] }

-- what is said before, with what one piece says
abbrev pub added : ProjectText → PieceMeaning → ProjectText
added p (said.Title name) = record { name = name; world = p.world; agents = p.agents }
added p (said.First world entry) = with_entry (record { name = p.name; world = world; agents = p.agents }) entry
added p (said.Next entry) = with_entry p entry
added p said.End = p

-- rule: what the pieces say together, one after another
abbrev pub all_added : ProjectText → List PieceMeaning → ProjectText
all_added p [] = p
all_added p (meant ∷ rest) = all_added (added p meant) rest

abbrev pub nothing : ProjectText
nothing = record { name = []; world = None; agents = [] }

-- the pieces are a whole project, this one
pub record SayProject (ps : List (List Tok)) (p : ProjectText) : Type 0 where
  pub meant : List PieceMeaning
  pub reads : ReadsAll (Some turn.Title) ps meant None
  pub says : p ≡ all_added nothing meant

-- ---- the tests of the agents

-- there are at most so many
abbrev pub most_agents : ℕ
most_agents = 1024

-- a number above 18446744073709551615 is answered as that number
abbrev pub saturated : ℕ → ℕ
saturated n = min n (2 ^ 64 - 1)

-- rule: there are not too many, and no two have one name
pub record IsWithin (lines : List AgentLine) : Type 0 where
  pub few : agents_of lines ≤ most_agents
  pub distinct : IsDistinct bytes_eq (names_of lines)

-- the first test that fails
pub data FailsTest (lines : List AgentLine) : ProjectFault → Type 0 where
  too_many : most_agents < agents_of lines → FailsTest lines (fault.TooMany (saturated (agents_of lines)))
  two_names : {place : ℕ} {name : List ℕ} → agents_of lines ≤ most_agents → IsTwice (names_of lines) place name → FailsTest lines (fault.TwoNames place name)

-- ---- the whole

-- rule: the bytes are the file of this project
pub record IsProject (bytes : List ℕ) (p : ProjectText) : Type 0 where
  pub tokens : List Tok
  pub lexed : AreTokens bytes tokens
  pub says : SayProject (pieces tokens) p
  pub within : IsWithin p.agents

-- the first refusal of bytes: of a token, then of a piece, then of the agents
pub data IsRefused (bytes : List ℕ) : ProjectFault → Type 0 where
  of_token : {x : LexFault} → IsFirstFault bytes x → IsRefused bytes (fault.Lex x)
  of_piece : {f : ProjectFault} (ts : List Tok) → AreTokens bytes ts → FirstRefused ts f → IsRefused bytes f
  of_agents : {f : ProjectFault} (ts : List Tok) (p : ProjectText) → AreTokens bytes ts → SayProject (pieces ts) p → FailsTest p.agents f → IsRefused bytes f

-- rule: why bytes are no file of a project
abbrev pub IsNone : List ℕ → ProjectFault → Type 0
IsNone bytes = UnlessMemory (IsRefused bytes)

-- what bytes answer where memory is not wanting: a project, or a fault
abbrev pub IsAnswer : List ℕ → Result ProjectText ProjectFault → Type 0
IsAnswer bytes (Ok p) = IsProject bytes p
IsAnswer bytes (Err f) = IsRefused bytes f
