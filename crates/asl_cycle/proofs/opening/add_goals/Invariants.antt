use Rattle.std.proofs.Common.{◌≡◌, ◌++◌, map, take}
use Rattle.asl_cycle.specs.Opening as spec
use Rattle.asl_cycle.proofs.opening.add_goals.Given as goal

abbrev pub invariant-loop-g : goal.invariant-loop-g
invariant-loop-g l = l.events ≡ l.initial.events ++ map spec.initial_goal (take l.g-index l.goals)
