use Rattle.std.proofs.Common.{◌≡◌, drop}
use Rattle.asl_goals.specs.Goals as spec
use Rattle.asl_goals.proofs.lookup.stacks_match.Given as goal

-- the stacks before have none
abbrev pub invariant-loop-stack : goal.invariant-loop-stack
invariant-loop-stack l = spec.first_of (spec.stack_match l.g) (drop l.stack-index l.stacks) ≡ spec.first_of (spec.stack_match l.g) l.stacks
