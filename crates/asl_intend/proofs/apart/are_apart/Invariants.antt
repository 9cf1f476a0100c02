use Rattle.std.proofs.Common.{◌≡◌, ◌∷◌, length}
use Rattle.asl_unify.specs.Logs.{later}
use Rattle.asl_intend.specs.Apart as spec
use Rattle.asl_intend.proofs.apart.are_apart.Given as goal

abbrev pub invariant-loop-x : goal.invariant-loop-x
invariant-loop-x l = spec.are_apart l.us (l.own ∷ later l.rest) l.left ≡ spec.are_apart l.us (l.own ∷ later l.rest) l.xs

abbrev pub decreases-loop-x : goal.decreases-loop-x
decreases-loop-x l = length l.left
