use Rattle.asl_lint_laws.proofs.Cycled.{agent_keeps}
use Rattle.asl_lint_laws.proofs.cycles.agent_keeps.Goals as goal

pub returns : goal.returns
returns c = agent_keeps
