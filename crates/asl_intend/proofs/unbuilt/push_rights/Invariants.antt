use Rattle.std.proofs.Common.{◌≡◌, ◌++◌, ◌∷◌, take}
use Rattle.asl_unify.specs.Logs.{later}
use Rattle.asl_intend.specs.Unbuilt as spec
use Rattle.asl_intend.proofs.unbuilt.push_rights.Given as goal

abbrev pub invariant-loop-p : goal.invariant-loop-p
invariant-loop-p l = l.to ≡ l.initial.to ++ spec.right_sides (spec.name_in l.names.first (l.names.pairs.now ∷ later l.names.rest)) (take l.p-index l.names.pairs.now)
