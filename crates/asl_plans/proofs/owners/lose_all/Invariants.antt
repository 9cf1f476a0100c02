use Rattle.std.proofs.Common.{◌≡◌, ◌++◌, map, take, drop}
use Rattle.asl_plans.specs.Libraries.{lost}
use Rattle.asl_plans.proofs.owners.lose_all.Given as goal

abbrev pub invariant-loop-k : goal.invariant-loop-k
invariant-loop-k l = l.entries ≡ map (lost l.which l.owner) (take l.k l.fn.entries) ++ drop l.k l.fn.entries
