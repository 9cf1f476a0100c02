use Rattle.asl_lint_laws.proofs.Standard.{standard_below}
use Rattle.asl_lint_laws.proofs.laws.actions_are_below.Goals as goal

pub returns : goal.returns
returns c = standard_below
