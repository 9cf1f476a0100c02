-- What is written of a plan is that plan again.
use Rattle.asl_print.specs.Agents.{plan_line}
use Rattle.asl_print_reread.proofs.Whole.{line_is_read}
use Rattle.asl_print_plan.specs.Laws.{WrittenIsPlan}
use Rattle.asl_print_plan.proofs.Alone.{found_is_plan, plan_is_found}

pub written_is_plan : WrittenIsPlan
written_is_plan bytes p e = plan_is_found (plan_line p) p (line_is_read bytes p (found_is_plan bytes p e))
