use Rattle.std.proofs.Common.{◌≡◌, ◌++◌, take}
use Rattle.asl_exec.specs.Said as spec
use Rattle.asl_exec.proofs.said.unquoted.Given as goal

abbrev pub invariant-loop-b : goal.invariant-loop-b
invariant-loop-b l = l.out ≡ l.initial.out ++ spec.unquoted (take l.b-index l.s)
