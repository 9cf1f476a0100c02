use Rattle.std.proofs.Common.{◌≡◌, ◌++◌, drop}
use Rattle.asl_intend.specs.Unbuilt as spec
use Rattle.asl_intend.proofs.unbuilt.push_lefts.Given as goal

abbrev pub invariant-loop-pair : goal.invariant-loop-pair
invariant-loop-pair l = l.to ++ spec.left_sides l.number (drop l._pair-index l.pairs) ≡ l.initial.to ++ spec.left_sides l.first l.pairs
