use Rattle.std.proofs.Common.{◌≡◌, ◌++◌, false, length}
use Rattle.asl_lexer.specs.Scan.{content}
use Rattle.asl_lexer.proofs.strings.content.Given as goal

abbrev pub invariant-bytes : goal.invariant-bytes
invariant-bytes l = record {
  same : l.all ++ content l.escaped l.rest ≡ content false l.text;
}

abbrev pub decreases-bytes : goal.decreases-bytes
decreases-bytes l = length l.rest
