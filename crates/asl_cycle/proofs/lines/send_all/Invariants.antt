use Rattle.std.proofs.Common.{◌≡◌, ◌++◌, map}
use Rattle.asl_cycle.specs.Steps as spec
use Rattle.asl_cycle.proofs.lines.send_all.Given as goal

abbrev pub invariant-loop-m : goal.invariant-loop-m
invariant-loop-m l = l.sofar ≡ record l.initial.sofar {
  lines = l.initial.sofar.lines ++ map (spec.sends_line l.peers) l.yielded;
  messages = l.initial.sofar.messages ++ l.yielded;
}
