use Rattle.std.proofs.Common.{◌≡◌, drop}
use Rattle.asl_intend.specs.Apart as spec
use Rattle.asl_intend.proofs.occurring.stands.Given as goal

-- it stands in none before
abbrev pub invariant-loop-t : goal.invariant-loop-t
invariant-loop-t l = spec.stands l.v (drop l.t-index l.ts) ≡ spec.stands l.v l.ts
