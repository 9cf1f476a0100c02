use Rattle.std.proofs.Common.{◌≡◌, take}
use Rattle.asl_cycle.proofs.opening.copy_plans.Given as goal

abbrev pub invariant-loop-p : goal.invariant-loop-p
invariant-loop-p l = l.r ≡ take l.p-index l.plans
