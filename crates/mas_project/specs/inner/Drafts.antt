-- What is kept of the pieces while they are read. That it is the project is shown in `proofs/`.
use Rattle.std.specs.Prelude.{◌≡◌, ◌+◌, ◌-◌, ◌≤◌, ◌^◌, List, [], ◌∷◌, ◌++◌, map, length, min}
use Rattle.asl_lexer.specs.declared.token.Tok.{Tok}
use Rattle.mas_project.specs.declared.draft.Draft.{Draft}
use Rattle.mas_project.specs.declared.piece.AgentEntry.{AgentEntry}
use Rattle.mas_project.specs.declared.piece.PieceMeaning.{PieceMeaning}
use Rattle.mas_project.specs.declared.piece.PieceMeaning.TheVariants as said
use Rattle.mas_project.specs.declared.syntax.AgentLine.{AgentLine}
use Rattle.mas_project.specs.declared.syntax.ProjectText.{ProjectText}
use Rattle.mas_project.specs.declared.fault.ProjectFault.{ProjectFault}
use Rattle.mas_project.specs.Names.{names_in, agents_of}
use Rattle.mas_project.specs.Projects.{count_of, line_of, nothing, saturated, SayProject, IsWithin, FailsTest}

-- ---- a draft

-- a line with a count that a `u32` holds
abbrev pub capped : AgentLine → AgentLine
capped line = record { name = line.name; file = line.file; count = min line.count (2 ^ 32 - 1); numbered = line.numbered }

abbrev pub no_draft : Draft
no_draft = record { text = nothing; agents = 0 }

abbrev pub entry_drafted : Draft → AgentEntry → Draft
entry_drafted d entry = record {
  text = record { name = d.text.name; world = d.text.world; agents = d.text.agents ++ capped (line_of entry) ∷ [] };
  agents = saturated (d.agents + count_of entry);
}

abbrev pub drafted : Draft → PieceMeaning → Draft
drafted d (said.Title name) = record { text = record { name = name; world = d.text.world; agents = d.text.agents }; agents = d.agents }
drafted d (said.First world entry) = entry_drafted (record {
  text = record { name = d.text.name; world = world; agents = d.text.agents };
  agents = d.agents;
}) entry
drafted d (said.Next entry) = entry_drafted d entry
drafted d said.End = d

-- ---- of which project it is one

-- the count of a line is not above the number of its agents
abbrev pub AreCounted : List AgentLine → Type 0
AreCounted [] = Unit {0}
AreCounted (line ∷ lines) = (line.count ≤ length (names_in line)) × AreCounted lines

-- a draft of this project
pub record IsDraft (p : ProjectText) (d : Draft) : Type 0 where
  pub text : d.text ≡ record { name = p.name; world = p.world; agents = map capped p.agents }
  pub agents : d.agents ≡ saturated (agents_of p.agents)
  pub counted : AreCounted p.agents

-- a draft of some project
pub record SomeDraft (d : Draft) : Type 0 where
  pub project : ProjectText
  pub drafts : IsDraft project d

-- the pieces are a whole project, and this is a draft of it
pub record SayDraft (ps : List (List Tok)) (d : Draft) : Type 0 where
  pub project : ProjectText
  pub says : SayProject ps project
  pub drafts : IsDraft project d

-- ---- the tests

-- what this is a draft of passes the tests, and is this
abbrev pub IsTested : Draft → ProjectText → Type 0
IsTested d text = (p : ProjectText) → IsDraft p d → (text ≡ p) × IsWithin p.agents

-- what this is a draft of fails a test
abbrev pub FailsTests : Draft → ProjectFault → Type 0
FailsTests d f = (p : ProjectText) → IsDraft p d → FailsTest p.agents f
