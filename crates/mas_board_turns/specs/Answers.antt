-- The turns that the board's answers tell of.
use Rattle.std.specs.Prelude.{Option, None, Some, Result, Ok, Err}
use Rattle.asl_term.specs.declared.sequence.Starved.{Starved}
use Rattle.mas_mind.specs.declared.mind.Outs.{Outs}
use Rattle.mas_mind.specs.declared.mind.Feedback.{Feedback}
use Rattle.mas_board.specs.declared.seats.Sensed.{Sensed}
use Rattle.mas_board.specs.declared.seats.Sensed.TheVariants as answer
use Rattle.mas_board_turns.specs.declared.turn.Turn.{Turn}
use Rattle.mas_board_turns.specs.declared.turn.Turn.TheVariants as turn

abbrev pub sensed : Sensed → Option Turn
sensed (answer.Input input) = Some (turn.Sensed input)
sensed (answer.Left end) = Some (turn.Left end)
sensed (answer.Ahead cycle least) = None
sensed answer.Halted = None

abbrev pub made_by_sense : Result Sensed Starved → Option Turn
made_by_sense (Ok s) = sensed s
made_by_sense (Err e) = None

-- of an Emit of these outs
abbrev pub made_by_emit : Outs → Result (Option Feedback) Starved → Option Turn
made_by_emit outs (Ok feedback) = Some (turn.Emitted outs feedback)
made_by_emit outs (Err e) = None
