use Rattle.std.proofs.Common.{◌≡◌, ◌++◌, drop}
use Rattle.std.specs.Option.{option_map}
use Rattle.asl_kqml.specs.Contents as spec
use Rattle.asl_kqml.proofs.content.all_plans.Given as goal

-- the plans so far stand before those of the other terms
abbrev pub invariant-loop-t : goal.invariant-loop-t
invariant-loop-t l = option_map (λ more. l.r ++ more) (spec.all_plans (drop l.t-index l.ts)) ≡ spec.all_plans l.ts
