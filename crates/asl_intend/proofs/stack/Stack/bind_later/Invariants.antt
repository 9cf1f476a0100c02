use Rattle.std.proofs.Common.{◌≡◌, length}
use Rattle.asl_unify.specs.Logs.{later}
use Rattle.asl_intend.specs.Untouched.{bound_each}
use Rattle.asl_intend.proofs.stack.Stack.bind_later.Given as goal

-- what is left is put into what came of those before
abbrev pub invariant-loop-next : goal.invariant-loop-next
invariant-loop-next l = bound_each (later l.left) l.self ≡ bound_each (later l.rest) l.fn.self

abbrev pub decreases-loop-next : goal.decreases-loop-next
decreases-loop-next l = length (later l.left)
