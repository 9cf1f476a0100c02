use Rattle.asl_lint_laws.proofs.Solutions.{solutions_below}
use Rattle.asl_lint_laws.proofs.laws.solutions_are_below.Goals as goal

pub returns : goal.returns
returns c = solutions_below
