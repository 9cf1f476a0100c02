use Rattle.std.proofs.Common.{◌≡◌, map, length}
use Rattle.asl_unify.specs.Applied.{put_formula}
use Rattle.asl_unify.specs.Logs.{later}
use Rattle.asl_unify.specs.Turns.{value_in}
use Rattle.asl_intend.proofs.untouched.leaves_formulas.Given as goal

-- those before are left as they are
abbrev pub invariant-loop-f : goal.invariant-loop-f
invariant-loop-f l = let h = value_in l.s (later l.rest) in map (put_formula h) l.left ≡ l.left → map (put_formula h) l.fs ≡ l.fs

abbrev pub decreases-loop-f : goal.decreases-loop-f
decreases-loop-f l = length l.left
