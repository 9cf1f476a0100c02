use Rattle.std.proofs.Common.{◌≡◌, length}
use Rattle.asl_unify.specs.Logs.{later}
use Rattle.asl_intend.proofs.stack.same_later.Given as goal

-- those before are the same
abbrev pub invariant-loop-s : goal.invariant-loop-s
invariant-loop-s l = later l.left ≡ later l.right → later l.a ≡ later l.b

abbrev pub decreases-loop-s : goal.decreases-loop-s
decreases-loop-s l = length (later l.left)
