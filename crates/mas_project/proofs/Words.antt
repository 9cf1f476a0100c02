-- Reading the words of a piece, as a loop does.
use Rattle.std.proofs.Common.{◌≡◌, List, [], ◌∷◌, length, Option, Some, None, Ok, refl, sym, ◌∙◌, arith}
use Rattle.asl_lexer.specs.declared.token.Tok.{Tok}
use Rattle.mas_project.specs.declared.lexeme.ProjectLexeme.{ProjectLexeme}
use Rattle.mas_project.specs.declared.piece.NextPiece.{NextPiece}
use Rattle.mas_project.specs.declared.state.State.{State}
use Rattle.mas_project.specs.declared.state.State.TheVariants as state
use Rattle.mas_project.specs.Lexemes.{lexeme, lexemes_from, lexemes}
use Rattle.mas_project.specs.Grammar.{StopsAt}
use Rattle.mas_project.specs.inner.Outcomes.{IsOutcome, ended}
use Rattle.mas_project.specs.inner.Steps.{begin, step, run}
use Rattle.mas_project.proofs.Machine.{run_step, run_stop, run_nil}
use Rattle.mas_project.proofs.Sound.{sound}
use Rattle.mas_project.proofs.Stops.{stops, early}

-- what is left gives what the whole piece gives
pub record Left (at : NextPiece) (s : State) (before : Option Tok) (rest piece : List Tok) : Type 0 where
  pub same : run s (lexemes_from before rest) ≡ run (begin at) (lexemes piece)

pub begins : (at : NextPiece) (piece : List Tok) → Left at (begin at) None piece piece
begins at piece = record { same = refl }

pub more : (at : NextPiece) (s next : State) (before : Option Tok) (t : Tok) (rest piece : List Tok) → Left at s before (t ∷ rest) piece
    → step s (lexeme before t) ≡ Some next → Left at next (Some t) rest piece
unfolding lexemes_from
more at s next before t rest piece h e = record { same = sym (run_step s next (lexeme before t) (lexemes_from (Some t) rest) e) ∙ h.same }

pub stops_here : (at : NextPiece) (s : State) (before : Option Tok) (t : Tok) (rest piece : List Tok) → Left at s before (t ∷ rest) piece
    → step s (lexeme before t) ≡ None → StopsAt at (lexemes piece) (lexeme before t)
unfolding lexemes_from
stops_here at s before t rest piece h e = stops at (lexemes piece) (lexemes_from (Some t) rest) (lexeme before t) (sym h.same
    ∙ run_stop s (lexeme before t) (lexemes_from (Some t) rest) e)

outcome_is : (at : NextPiece) (ts : List ProjectLexeme) (s : State) → run (begin at) ts ≡ Ok s → IsOutcome at ts (ended s)
outcome_is at ts (state.Whole m) e = sound at ts m e
outcome_is at ts s e = early at ts s e (λ m p. cc)

pub ends_here : (at : NextPiece) (s : State) (before : Option Tok) (rest piece : List Tok) → Left at s before rest piece → length rest ≡ 0
    → IsOutcome at (lexemes piece) (ended s)
unfolding lexemes_from
ends_here at s before [] piece h n = outcome_is at (lexemes piece) s (sym h.same ∙ run_nil s)
ends_here at s before (t ∷ rest) piece h n = absurd (omega arith)

pub ruleset words = (begins, more, stops_here, ends_here)
