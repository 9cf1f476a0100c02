use Rattle.asl_lint_laws.proofs.Openings.{opens_served}
use Rattle.asl_lint_laws.proofs.opening.opens_served.Goals as goal

pub returns : goal.returns
returns c = opens_served
