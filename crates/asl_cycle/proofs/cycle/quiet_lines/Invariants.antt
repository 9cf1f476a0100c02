use Rattle.std.proofs.Common.{◌≡◌, drop}
use Rattle.asl_cycle.specs.Cycle as spec
use Rattle.asl_cycle.proofs.cycle.quiet_lines.Given as goal

abbrev pub invariant-loop-line : goal.invariant-loop-line
invariant-loop-line l = spec.quiet_lines (drop l.line-index l.lines) ≡ spec.quiet_lines l.lines
