use Rattle.asl_lint_laws.proofs.Instances.{instance_put, instance_settled, instance_varied}
use Rattle.asl_lint_laws.proofs.goals.instances_stay.Goals as goal

pub returns-clause-put : goal.returns-clause-put
returns-clause-put c = instance_put

pub returns-clause-varied : goal.returns-clause-varied
returns-clause-varied c = instance_varied

pub returns-clause-settled : goal.returns-clause-settled
returns-clause-settled c = instance_settled
