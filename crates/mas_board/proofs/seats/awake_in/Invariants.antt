use Rattle.mas_board.specs.Boxes.{lists}
use Rattle.mas_board.specs.Surveys.{RestBetween}
use Rattle.mas_board.proofs.seats.awake_in.Given as goal

abbrev pub invariant-loop-i : goal.invariant-loop-i
invariant-loop-i l = RestBetween l.version l.places (lists l.mail) l.from l.i
