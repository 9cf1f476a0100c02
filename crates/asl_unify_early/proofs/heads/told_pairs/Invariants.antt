use Rattle.std.proofs.Common.{map}
use Rattle.asl_unify.specs.Renamed.{renamed}
use Rattle.asl_unify_early.specs.inner.Heads.{Reached}
use Rattle.asl_unify_early.proofs.heads.told_pairs.Given as goal

abbrev pub invariant-loop-i : goal.invariant-loop-i
invariant-loop-i l = Reached l.s l.xs (map (renamed l.number) l.ys) l.i l.new
