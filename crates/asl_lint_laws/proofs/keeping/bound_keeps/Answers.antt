use Rattle.asl_lint_laws.proofs.Bound.{bound_keeps}
use Rattle.asl_lint_laws.proofs.keeping.bound_keeps.Goals as goal

pub returns : goal.returns
returns c = bound_keeps
