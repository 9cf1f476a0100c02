use Rattle.std.proofs.Common.{◌≡◌, length}
use Rattle.asl_unify.specs.Logs.{later}
use Rattle.asl_intend.specs.Apart.{in_levels}
use Rattle.asl_intend.proofs.occurring.in_later.Given as goal

abbrev pub invariant-loop-next : goal.invariant-loop-next
invariant-loop-next l = in_levels l.v (later l.left) ≡ in_levels l.v (later l.rest)

abbrev pub decreases-loop-next : goal.decreases-loop-next
decreases-loop-next l = length (later l.left)
