-- What is true of projects.
use Rattle.std.specs.Prelude.{◌≡◌, ℕ, ◌≤◌, List, Result}
use Rattle.mas_project.specs.declared.lexeme.ProjectLexeme.{ProjectLexeme}
use Rattle.mas_project.specs.declared.piece.PieceMeaning.{PieceMeaning}
use Rattle.mas_project.specs.declared.piece.NextPiece.{NextPiece}
use Rattle.mas_project.specs.declared.syntax.ProjectText.{ProjectText}
use Rattle.mas_project.specs.declared.fault.ProjectFault.{ProjectFault}
use Rattle.mas_project.specs.Grammar.{Reads}
use Rattle.mas_project.specs.Names.{agents_of}
use Rattle.mas_project.specs.Projects.{IsProject, IsAnswer}

-- a piece says one thing at most
abbrev pub OneReading : Type 0
OneReading = (at : NextPiece) (ts : List ProjectLexeme) (s t : PieceMeaning) → Reads at ts s → Reads at ts t → s ≡ t

-- bytes have one answer
abbrev pub OneAnswer : Type 0
OneAnswer = (bytes : List ℕ) (r s : Result ProjectText ProjectFault) → IsAnswer bytes r → IsAnswer bytes s → r ≡ s

-- and they have one
abbrev pub SomeAnswer : Type 0
SomeAnswer = (bytes : List ℕ) → (r : Result ProjectText ProjectFault) × IsAnswer bytes r

-- there is an agent
abbrev pub SomeAgents : Type 0
SomeAgents = (bytes : List ℕ) (p : ProjectText) → IsProject bytes p → 1 ≤ agents_of p.agents
