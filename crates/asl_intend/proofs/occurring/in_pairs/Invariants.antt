use Rattle.std.proofs.Common.{◌≡◌, drop}
use Rattle.asl_intend.specs.Apart as spec
use Rattle.asl_intend.proofs.occurring.in_pairs.Given as goal

-- it stands in none before
abbrev pub invariant-loop-p : goal.invariant-loop-p
invariant-loop-p l = spec.in_pairs l.v (drop l.p-index l.pairs) ≡ spec.in_pairs l.v l.pairs
