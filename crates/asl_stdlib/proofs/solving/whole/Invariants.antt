use Rattle.std.proofs.Common.{◌≡◌, ◌++◌, length, reverse}
use Rattle.asl_unify.specs.Matches.{behind}
use Rattle.asl_resolve.specs.GivenPairs.{AreSound}
use Rattle.asl_stdlib.proofs.solving.whole.Given as goal

abbrev pub invariant-loop-more : goal.invariant-loop-more
invariant-loop-more l = record {
  value : l.out ++ behind l.s (reverse l.left) ≡ behind l.s l.fn.found;
  sound : AreSound l.s (reverse l.left);
}

abbrev pub decreases-loop-more : goal.decreases-loop-more
decreases-loop-more l = length l.left
