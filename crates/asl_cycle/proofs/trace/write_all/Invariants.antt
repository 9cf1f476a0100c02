use Rattle.std.proofs.Common.{◌≡◌, ◌++◌, take}
use Rattle.asl_cycle.specs.Trace as spec
use Rattle.asl_cycle.proofs.trace.write_all.Given as goal

abbrev pub invariant-loop-line : goal.invariant-loop-line
invariant-loop-line l = l.out ≡ l.initial.out ++ spec.shown l.level l.cycle (take l.line-index l.lines)
