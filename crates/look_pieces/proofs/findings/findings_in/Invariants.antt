use Rattle.std.proofs.Common.{length}
use Rattle.look_pieces.specs.Telling.{Each, StandsIn}
use Rattle.look_pieces.proofs.findings.findings_in.Given as goal

abbrev pub invariant-reasons : goal.invariant-reasons
invariant-reasons l = Each (StandsIn l.toks) l.all

abbrev pub decreases-reasons : goal.decreases-reasons
decreases-reasons l = length l.rest
