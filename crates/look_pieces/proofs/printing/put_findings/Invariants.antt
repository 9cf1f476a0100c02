use Rattle.std.proofs.Common.{◌≡◌, ◌++◌, length}
use Rattle.look_pieces.specs.Printing.{findings_text}
use Rattle.look_pieces.proofs.printing.put_findings.Given as goal

abbrev pub invariant-findings : goal.invariant-findings
invariant-findings l = l.out ++ findings_text l.file l.word l.rest ≡ l.fn.out ++ findings_text l.file l.word l.findings

abbrev pub decreases-findings : goal.decreases-findings
decreases-findings l = length l.rest
