use Rattle.asl_cycle.proofs.Awaiting.{actions_are_awaited}
use Rattle.asl_cycle.proofs.laws.actions_are_awaited.Goals as goal

pub returns : goal.returns
returns c = actions_are_awaited
