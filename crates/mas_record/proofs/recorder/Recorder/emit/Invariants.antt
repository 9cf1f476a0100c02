use Rattle.mas_board_turns.specs.Answers.{made_by_emit}
use Rattle.mas_record.proofs.recorder.Recorder.emit.Given as goal

abbrev pub ghosts-give_emit : goal.ghosts-give_emit
ghosts-give_emit g a = record { made = made_by_emit a.outs.now.value a.answer.now }
