use Rattle.std.proofs.Common.{◌≡◌, ◌++◌, take}
use Rattle.std.specs.List.{flat_map}
use Rattle.look_text.specs.Plans.{plan_line}
use Rattle.look_text.proofs.plans.put_plans.Given as goal

abbrev pub invariant-plans : goal.invariant-plans
invariant-plans l = l.out ≡ l.initial.out ++ flat_map (plan_line l.names) (take l.e-index l.all)
