use Rattle.std.proofs.Common.{◌≡◌, map, take}
use Rattle.asl_term.specs.Variables.{vars, joined, noted}
use Rattle.asl_term.proofs.variables.+gather.Given as goal

abbrev pub invariant-gather_all-loop-t : goal.invariant-gather_all-loop-t
invariant-gather_all-loop-t l = l.found ≡ noted l.initial.found (joined (map vars (take l.t-index l.ts)))
