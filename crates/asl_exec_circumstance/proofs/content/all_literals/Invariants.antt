use Rattle.std.proofs.Common.{◌≡◌, ◌++◌, drop}
use Rattle.std.specs.Option.{option_map}
use Rattle.asl_exec_circumstance.specs.Contents as spec
use Rattle.asl_exec_circumstance.proofs.content.all_literals.Given as goal

-- the literals so far stand before those of the other terms
abbrev pub invariant-loop-t : goal.invariant-loop-t
invariant-loop-t l = option_map (λ more. l.r ++ more) (spec.all_literals (drop l.t-index l.ts)) ≡ spec.all_literals l.ts
