use Rattle.std.proofs.Common.{refl}
use Rattle.mas_board.proofs.Surveys.{found_one, looked_twice}
use Rattle.mas_board.proofs.seats.awake_from.Goals as goal

pub returns-in-Some : goal.returns-in-Some
returns-in-Some c = found_one _ _ _ _ _ _ _ c.requires.boxes c.awake_in.ensures c.in-Some.is

pub returns-in-None : goal.returns-in-None
returns-in-None c = looked_twice _ _ _ _ _ _ _ c.requires.boxes refl c.awake_in.ensures c.in-None.is c.awake_in-in-None.ensures
