use Rattle.asl_lint_laws.proofs.Instances.{settled_merged, varied_merged}
use Rattle.asl_lint_laws.proofs.goals.merged_stay.Goals as goal

pub returns-clause-varied : goal.returns-clause-varied
returns-clause-varied c = varied_merged

pub returns-clause-settled : goal.returns-clause-settled
returns-clause-settled c = settled_merged
