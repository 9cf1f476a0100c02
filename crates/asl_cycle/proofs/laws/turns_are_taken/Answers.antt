use Rattle.asl_cycle.proofs.Ordered.{take_turns}
use Rattle.asl_cycle.proofs.laws.turns_are_taken.Goals as goal

pub returns : goal.returns
returns c = take_turns
