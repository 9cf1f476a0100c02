use Rattle.std.proofs.Common.{length}
use Rattle.std.specs.List.{AllByRecursion}
use Rattle.asl_unify.specs.Logs.{later}
use Rattle.asl_intend.specs.Untouched.{LeavesEntry}
use Rattle.asl_intend.proofs.untouched.leaves_entries.Given as goal

-- those before are left as they are
abbrev pub invariant-loop-e : goal.invariant-loop-e
invariant-loop-e l = AllByRecursion (LeavesEntry l.s (later l.rest)) l.left → AllByRecursion (LeavesEntry l.s (later l.rest)) l.entries

abbrev pub decreases-loop-e : goal.decreases-loop-e
decreases-loop-e l = length l.left
