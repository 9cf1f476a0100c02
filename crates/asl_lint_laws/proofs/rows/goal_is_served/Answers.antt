use Rattle.asl_lint_laws.proofs.RowGoals.{goal_is_served}
use Rattle.asl_lint_laws.proofs.rows.goal_is_served.Goals as goal

pub returns : goal.returns
returns c = goal_is_served
