use Rattle.std.proofs.Common.{◌≡◌, map, drop}
use Rattle.asl_term.specs.Variables.{any, occurs}
use Rattle.asl_term.proofs.variables.+occurs.Given as goal

abbrev pub invariant-occurs_in-loop-t : goal.invariant-occurs_in-loop-t
invariant-occurs_in-loop-t l = any (map (occurs l.v) (drop l.t-index l.ts)) ≡ any (map (occurs l.v) l.ts)
