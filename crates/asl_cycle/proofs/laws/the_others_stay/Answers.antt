use Rattle.asl_cycle.proofs.Ordered.{keep_others}
use Rattle.asl_cycle.proofs.laws.the_others_stay.Goals as goal

pub returns : goal.returns
returns c = keep_others
