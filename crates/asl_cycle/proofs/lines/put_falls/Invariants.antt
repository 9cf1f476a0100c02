use Rattle.std.proofs.Common.{◌≡◌, ◌++◌, take}
use Rattle.asl_cycle.specs.Steps as spec
use Rattle.asl_cycle.proofs.lines.put_falls.Given as goal

abbrev pub invariant-loop-fall : goal.invariant-loop-fall
invariant-loop-fall l = l.lines ≡ l.initial.lines ++ spec.falls_lines (take l.fall-index l.falls)
