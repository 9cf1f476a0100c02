use Rattle.std.proofs.Common.{◌≡◌, ◌∷◌, length}
use Rattle.asl_unify.specs.Logs.{later}
use Rattle.asl_intend.specs.Unbuilt as spec
use Rattle.asl_intend.proofs.unbuilt.name_in.Given as goal

-- no substitution before binds the variable
abbrev pub invariant-loop-k : goal.invariant-loop-k
invariant-loop-k l = spec.name_in l.number (l.at ∷ later l.later) l.v ≡ spec.name_in l.first (l.pairs ∷ later l.rest) l.v

abbrev pub decreases-loop-k : goal.decreases-loop-k
decreases-loop-k l = length (later l.later)
