use Rattle.std.proofs.Common.{◌≡◌, drop}
use Rattle.asl_intend.specs.Unbuilt as spec
use Rattle.asl_intend.proofs.unbuilt.place.Given as goal

-- none of the pairs before is of the variable
abbrev pub invariant-loop-p : goal.invariant-loop-p
invariant-loop-p l = spec.place l.number (drop l.p-index l.pairs) l.v ≡ spec.place l.first l.pairs l.v
