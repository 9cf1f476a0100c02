use Rattle.std.proofs.Common.{◌≡◌, length, reverse}
use Rattle.asl_plans.specs.Libraries.{all_added}
use Rattle.asl_plans.proofs.library.Library.add_all.Given as goal

abbrev pub invariant-plans : goal.invariant-plans
invariant-plans l = all_added (reverse l.left) l.owner l.self.plans ≡ all_added l.fn.plans l.owner l.fn.self.plans

abbrev pub decreases-plans : goal.decreases-plans
decreases-plans l = length l.left
