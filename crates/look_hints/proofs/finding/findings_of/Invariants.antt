use Rattle.std.proofs.Common.{◌≡◌, ◌+◌, length}
use Rattle.look_hints.proofs.finding.findings_of.Given as goal

abbrev pub invariant-hints : goal.invariant-hints
invariant-hints l = length l.findings + length l.rest ≡ length l.fn.hints

abbrev pub decreases-hints : goal.decreases-hints
decreases-hints l = length l.rest
