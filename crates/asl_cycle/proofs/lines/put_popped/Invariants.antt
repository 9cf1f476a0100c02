use Rattle.std.proofs.Common.{◌≡◌, ◌++◌}
use Rattle.asl_cycle.specs.Steps as spec
use Rattle.asl_cycle.proofs.lines.put_popped.Given as goal

abbrev pub invariant-loop : goal.invariant-loop
invariant-loop l = l.lines ≡ l.initial.lines ++ spec.pops l.counter
