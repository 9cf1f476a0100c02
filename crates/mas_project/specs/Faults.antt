-- Which piece of a project is refused first, and why.
use Rattle.std.specs.Prelude.{◌≡◌, ℕ, ◌+◌, ◌-◌, List, ◌∷◌, ◌++◌, length, slice_get, Option, Some, None, codes}
use Rattle.std.specs.Option.{option_map_or}
use Rattle.asl_lexer.specs.declared.token.Tok.{Tok}
use Rattle.mas_project.specs.declared.lexeme.ProjectLexeme.{ProjectLexeme}
use Rattle.mas_project.specs.declared.lexeme.ProjectLexeme.TheVariants as lexeme
use Rattle.mas_project.specs.declared.piece.PieceMeaning.{PieceMeaning}
use Rattle.mas_project.specs.declared.piece.NextPiece.{NextPiece}
use Rattle.mas_project.specs.declared.piece.NextPiece.TheVariants as turn
use Rattle.mas_project.specs.declared.fault.ProjectFault.{ProjectFault}
use Rattle.mas_project.specs.declared.fault.ProjectFault.TheVariants as fault
use Rattle.mas_project.specs.Lexemes.{lexemes}
use Rattle.mas_project.specs.Grammar.{StopsAt, EndsEarly}
use Rattle.mas_project.specs.Pieces.{pieces, ReadsAll}

-- P of a fault, unless it is want of memory, which may come anywhere
abbrev pub UnlessMemory : (ProjectFault → Type 0) → ProjectFault → Type 0
UnlessMemory P fault.Memory = Unit {0}
UnlessMemory P f = P f

-- ---- one piece

-- no clause, at a token; where there is none, at the first place
abbrev pub clause_at : ℕ → Option Tok → ProjectFault
clause_at number None = fault.Clause number 1 1
clause_at number (Some t) = fault.Clause number t.line t.column

-- the text of a word that may be an option that is not known
abbrev pub option_word : ProjectLexeme → Option (List ℕ)
option_word (lexeme.Atom name) = Some name
option_word (lexeme.Var name) = Some name
option_word lexeme.OpenSquare = Some (codes "[")
option_word _ = None

-- no reading goes on with this word
abbrev pub stop_fault : ℕ → List Tok → ProjectLexeme → ProjectFault
stop_fault number piece word = option_map_or (fault.Option number) (option_word word) (clause_at number (slice_get piece 0))

-- Why a piece, the one of this number, is refused in its turn.
pub data IsRefusedPiece (piece : List Tok) (number : ℕ) : Option NextPiece → ProjectFault → Type 0 where
  too_late : {f : ProjectFault} → f ≡ clause_at number (slice_get piece 0) → IsRefusedPiece piece number None f
  too_early : {at : NextPiece} {f : ProjectFault} → EndsEarly at (lexemes piece) → f ≡ clause_at number (slice_get piece 0)
      → IsRefusedPiece piece number (Some at) f
  stops : {at : NextPiece} {f : ProjectFault} (word : ProjectLexeme) → StopsAt at (lexemes piece) word → f ≡ stop_fault number piece word
      → IsRefusedPiece piece number (Some at) f

-- ---- all pieces

-- rule: the first piece that is refused, or one that is missing.
pub data FirstRefused (ts : List Tok) : ProjectFault → Type 0 where
  refused : {f : ProjectFault} (before behind : List (List Tok)) (piece : List Tok) (meant : List PieceMeaning) (at : Option NextPiece)
      → pieces ts ≡ before ++ piece ∷ behind → ReadsAll (Some turn.Title) before meant at → IsRefusedPiece piece (length before + 1) at f → FirstRefused ts f
  missing : {f : ProjectFault} (meant : List PieceMeaning) (at : NextPiece) → ReadsAll (Some turn.Title) (pieces ts) meant (Some at)
      → f ≡ clause_at (length (pieces ts) + 1) (slice_get ts (length ts - 1)) → FirstRefused ts f
