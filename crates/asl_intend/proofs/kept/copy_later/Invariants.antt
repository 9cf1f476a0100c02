use Rattle.std.proofs.Common.{◌≡◌, ◌++◌, length}
use Rattle.asl_unify.specs.Logs.{later}
use Rattle.asl_intend.proofs.kept.copy_later.Given as goal

-- those before are copied
abbrev pub invariant-loop-next : goal.invariant-loop-next
invariant-loop-next l = l.log ++ later l.left ≡ later l.rest

abbrev pub decreases-loop-next : goal.decreases-loop-next
decreases-loop-next l = length (later l.left)
