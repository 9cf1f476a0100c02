use Rattle.std.proofs.Common.{◌≡◌, ◌+◌, false, length}
use Rattle.std.specs.Prelude.{if◌then◌else◌}
use Rattle.asl_lexer.specs.Scan.{bad_from}
use Rattle.asl_lexer.proofs.strings.bad_at.Given as goal

abbrev pub invariant-bytes : goal.invariant-bytes
invariant-bytes l = record {
  same : bad_from l.place l.escaped l.rest ≡ bad_from 1 false l.text;
  length : l.place + (if l.escaped then 1 else 0) + length l.rest ≡ 1 + length l.text;
}

abbrev pub decreases-bytes : goal.decreases-bytes
decreases-bytes l = length l.rest
