use Rattle.asl_lint_laws.proofs.Relevant.{served_is_relevant}
use Rattle.asl_lint_laws.proofs.goals.served_is_relevant.Goals as goal

pub returns : goal.returns
returns c = served_is_relevant
