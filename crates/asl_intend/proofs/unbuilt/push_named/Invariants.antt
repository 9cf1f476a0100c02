use Rattle.std.proofs.Common.{◌≡◌, ◌++◌, map, take}
use Rattle.asl_unify.specs.Renamed.{with_vars}
use Rattle.asl_intend.proofs.unbuilt.push_named.Given as goal

abbrev pub invariant-loop-t : goal.invariant-loop-t
invariant-loop-t g l = l.to ≡ l.initial.to ++ map (with_vars (g.N.Renaming.named l.names)) (take l.t-index l.ts)
