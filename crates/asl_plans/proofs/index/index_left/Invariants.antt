use Rattle.std.proofs.Common.{take}
use Rattle.asl_plans.specs.Libraries.{dropped}
use Rattle.asl_plans.specs.FiledPlaces.{IsCounted}
use Rattle.asl_plans.proofs.index.index_left.Given as goal

abbrev pub invariant-loop-k : goal.invariant-loop-k
invariant-loop-k l = IsCounted (dropped l.which l.owner (take l.k l.entries)) l.n l.filed l.keys
