use Rattle.asl_print_plan.proofs.Alone.{plan_is_found}
use Rattle.asl_print_plan.proofs.laws.found_is_plan.Goals as goal

pub returns-clause-all : goal.returns-clause-all
returns-clause-all c = plan_is_found
