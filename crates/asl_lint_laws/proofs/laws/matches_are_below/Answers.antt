use Rattle.asl_lint_laws.proofs.FreshMatching.{matches_below}
use Rattle.asl_lint_laws.proofs.laws.matches_are_below.Goals as goal

pub returns : goal.returns
returns c = matches_below
