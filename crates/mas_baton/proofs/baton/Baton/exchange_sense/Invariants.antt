use Rattle.mas_board_turns.specs.Answers.{made_by_sense}
use Rattle.mas_baton.proofs.baton.Baton.exchange_sense.Given as goal

abbrev pub ghosts-give_sense : goal.ghosts-give_sense
ghosts-give_sense g a = record { made = made_by_sense a.answer.now }
