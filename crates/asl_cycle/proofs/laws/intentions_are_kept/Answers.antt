use Rattle.asl_cycle.proofs.Keeping.{keep_intentions}
use Rattle.asl_cycle.proofs.laws.intentions_are_kept.Goals as goal

pub returns : goal.returns
returns c = keep_intentions
