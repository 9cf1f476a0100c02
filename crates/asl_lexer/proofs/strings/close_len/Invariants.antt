use Rattle.std.proofs.Common.{◌≡◌, ◌+◌, false, length}
use Rattle.std.specs.Option.{option_map}
use Rattle.asl_lexer.specs.Scan.{close_len}
use Rattle.asl_lexer.proofs.strings.close_len.Given as goal

abbrev pub invariant-bytes : goal.invariant-bytes
invariant-bytes l = record {
  same : option_map (λ n. l.count + n) (close_len l.escaped l.rest) ≡ close_len false l.text;
  length : l.count + length l.rest ≡ length l.text;
}

abbrev pub decreases-bytes : goal.decreases-bytes
decreases-bytes l = length l.rest
