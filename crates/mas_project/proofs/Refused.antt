-- Why a piece is refused, as its reader tells it.
use Rattle.std.proofs.Common.{◌≡◌, ℕ, List, Some, subst, slice_get}
use Rattle.asl_lexer.specs.declared.token.Tok.{Tok}
use Rattle.mas_project.specs.declared.lexeme.ProjectLexeme.{ProjectLexeme}
use Rattle.mas_project.specs.declared.reading.Outcome.{Outcome}
use Rattle.mas_project.specs.declared.reading.Outcome.TheVariants as outcome
use Rattle.mas_project.specs.declared.piece.NextPiece.{NextPiece}
use Rattle.mas_project.specs.declared.fault.ProjectFault.{ProjectFault}
use Rattle.mas_project.specs.declared.fault.ProjectFault.TheVariants as fault
use Rattle.mas_project.specs.Lexemes.{lexemes}
use Rattle.mas_project.specs.Faults.{UnlessMemory, clause_at, stop_fault, IsRefusedPiece, too_early, stops}
use Rattle.mas_project.specs.inner.Outcomes.{IsOutcome}

-- what holds of a fault holds of it unless it is want of memory
pub unless_memory : (P : ProjectFault → Type 0) (f : ProjectFault) → P f → UnlessMemory P f
unless_memory P fault.Memory h = tt
unless_memory P (fault.Lex x) h = h
unless_memory P (fault.Clause n l c) h = h
unless_memory P (fault.Option n w) h = h
unless_memory P (fault.TooMany n) h = h
unless_memory P (fault.TwoNames p n) h = h

-- and what follows from it then follows from it
pub carried : (P Q : ProjectFault → Type 0) (f : ProjectFault) → (P f → Q f) → UnlessMemory P f → UnlessMemory Q f
carried P Q fault.Memory so h = tt
carried P Q (fault.Lex x) so h = so h
carried P Q (fault.Clause n l c) so h = so h
carried P Q (fault.Option n w) so h = so h
carried P Q (fault.TooMany n) so h = so h
carried P Q (fault.TwoNames p n) so h = so h

pub early : (at : NextPiece) (piece : List Tok) (number : ℕ) (f : ProjectFault) (o : Outcome) → IsOutcome at (lexemes piece) o → o ≡ outcome.Early
    → f ≡ clause_at number (slice_get piece 0) → UnlessMemory (IsRefusedPiece piece number (Some at)) f
early at piece number f o h p e = unless_memory (IsRefusedPiece piece number (Some at)) f (too_early (subst (IsOutcome at (lexemes piece)) p h) e)

pub stopped : (at : NextPiece) (piece : List Tok) (number : ℕ) (f : ProjectFault) (o : Outcome) (word : ProjectLexeme) → IsOutcome at (lexemes piece) o
    → o ≡ outcome.Stops word → f ≡ stop_fault number piece word → UnlessMemory (IsRefusedPiece piece number (Some at)) f
stopped at piece number f o word h p e =
    unless_memory (IsRefusedPiece piece number (Some at)) f (stops word (subst (IsOutcome at (lexemes piece)) p h) e)

pub ruleset of_piece = (early, stopped)
