-- What the reading of one piece finds.
use Rattle.std.specs.Prelude.{List}
use Rattle.mas_project.specs.declared.lexeme.ProjectLexeme.{ProjectLexeme}
use Rattle.mas_project.specs.declared.piece.NextPiece.{NextPiece}
use Rattle.mas_project.specs.declared.reading.Outcome.{Outcome}
use Rattle.mas_project.specs.declared.reading.Outcome.TheVariants as outcome
use Rattle.mas_project.specs.declared.state.State.{State}
use Rattle.mas_project.specs.declared.state.State.TheVariants as state
use Rattle.mas_project.specs.Grammar.{Reads, StopsAt, EndsEarly}

abbrev pub IsOutcome : NextPiece → List ProjectLexeme → Outcome → Type 0
IsOutcome at ts (outcome.Whole meant) = Reads at ts meant
IsOutcome at ts outcome.Early = EndsEarly at ts
IsOutcome at ts (outcome.Stops word) = StopsAt at ts word

abbrev pub ended : State → Outcome
ended (state.Whole meant) = outcome.Whole meant
ended _ = outcome.Early
