use Rattle.std.proofs.Common.{◌≡◌, drop}
use Rattle.asl_goals.specs.Goals as spec
use Rattle.asl_goals.proofs.lookup.stack_match.Given as goal

-- the means above have none
abbrev pub invariant-loop-k : goal.invariant-loop-k
invariant-loop-k l = spec.stack_match l.g (drop l.k l.stack) ≡ spec.stack_match l.g l.stack
