use Rattle.asl_plans.proofs.SamePlans.{plan_value}
use Rattle.asl_plans.proofs.same.same_plan.Goals as goal

pub returns : goal.returns
returns c = plan_value c.equal_plan.result c.args.a.now c.args.b.now c.equal_plan.ensures
