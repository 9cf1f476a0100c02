use Rattle.std.proofs.Common.{◌≡◌, map, take}
use Rattle.asl_unify.specs.Puts.{apply}
use Rattle.asl_unify.specs.Settling.{settle}
use Rattle.asl_unify_early.proofs.goals.arguments.Given as goal

abbrev pub invariant-loop-t : goal.invariant-loop-t
invariant-loop-t l = map settle l.r ≡ map settle (map (apply l.s) (take l.t-index l.ts))
