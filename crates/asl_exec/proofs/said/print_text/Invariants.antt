use Rattle.std.proofs.Common.{◌≡◌, take}
use Rattle.asl_exec.specs.Said as spec
use Rattle.asl_exec.proofs.said.print_text.Given as goal

abbrev pub invariant-loop-arg : goal.invariant-loop-arg
invariant-loop-arg l = l.r ≡ spec.print_text (take l.arg-index l.args)
