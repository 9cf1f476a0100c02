use Rattle.asl_lint_laws.proofs.Cycled.{cycle_keeps}
use Rattle.asl_lint_laws.proofs.cycles.cycle_keeps.Goals as goal

pub returns : goal.returns
returns c = cycle_keeps
