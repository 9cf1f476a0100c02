use Rattle.std.proofs.Common.{◌≡◌, ◌≤◌, length}
use Rattle.asl_lexer.specs.Scan.{value_from}
use Rattle.asl_lexer.proofs.scan.value.Given as goal

abbrev pub invariant-digits : goal.invariant-digits
invariant-digits l = record {
  same : value_from l.sum l.rest ≡ value_from 0 l.digits;
  small : l.sum ≤ 9223372036854775807;
}

abbrev pub decreases-digits : goal.decreases-digits
decreases-digits l = length l.rest
