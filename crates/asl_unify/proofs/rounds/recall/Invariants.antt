use Rattle.std.proofs.Common.{◌≤◌, length}
use Rattle.asl_unify.proofs.rounds.recall.Given as goal

abbrev pub invariant-loop-i : goal.invariant-loop-i
invariant-loop-i l = l.i ≤ length l.known

abbrev pub decreases-loop-i : goal.decreases-loop-i
decreases-loop-i l = l.i
