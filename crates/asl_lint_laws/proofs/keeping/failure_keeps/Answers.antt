use Rattle.asl_lint_laws.proofs.Failing.{failure_keeps}
use Rattle.asl_lint_laws.proofs.keeping.failure_keeps.Goals as goal

pub returns : goal.returns
returns c = failure_keeps
