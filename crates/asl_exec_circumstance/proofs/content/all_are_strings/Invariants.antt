use Rattle.std.proofs.Common.{◌≡◌, drop}
use Rattle.std.specs.Option.{is_some}
use Rattle.asl_exec_circumstance.specs.Contents as spec
use Rattle.asl_exec_circumstance.proofs.content.all_are_strings.Given as goal

abbrev pub invariant-loop-t : goal.invariant-loop-t
invariant-loop-t l = is_some (spec.all_strings (drop l.t-index l.ts)) ≡ is_some (spec.all_strings l.ts)
