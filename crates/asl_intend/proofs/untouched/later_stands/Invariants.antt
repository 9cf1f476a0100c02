use Rattle.std.proofs.Common.{◌≡◌, ◌∷◌, length}
use Rattle.asl_unify.specs.Logs.{later}
use Rattle.asl_intend.specs.Untouched.{some_stands}
use Rattle.asl_intend.proofs.untouched.later_stands.Given as goal

abbrev pub invariant-loop-next : goal.invariant-loop-next
invariant-loop-next l = some_stands (l.own ∷ later l.rest) (later l.left) ≡ some_stands (l.own ∷ later l.rest) (later l.levels)

abbrev pub decreases-loop-next : goal.decreases-loop-next
decreases-loop-next l = length (later l.left)
