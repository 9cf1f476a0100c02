use Rattle.asl_cycle.proofs.Lefts.{none_lost}
use Rattle.asl_cycle.proofs.laws.nothing_is_lost.Goals as goal

pub returns : goal.returns
returns c = none_lost
