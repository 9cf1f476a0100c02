use Rattle.std.proofs.Common.{◌≡◌}
use Rattle.asl_exec_circumstance.specs.Circumstance as spec
use Rattle.asl_exec_circumstance.proofs.parts.tell.Given as goal

abbrev pub invariant-loop-event : goal.invariant-loop-event
invariant-loop-event l = l.a ≡ spec.told l.initial.a l.yielded
