use Rattle.std.proofs.Common.{◌≡◌, ◌+◌, length}
use Rattle.std.specs.Option.{option_map}
use Rattle.asl_lexer.specs.Scan.{comment_len}
use Rattle.asl_lexer.proofs.blanks.comment_len.Given as goal

abbrev pub invariant-bytes : goal.invariant-bytes
invariant-bytes l = record {
  same : option_map (λ n. l.count + n) (comment_len l.rest) ≡ comment_len l.bytes;
  length : l.count + length l.rest ≡ length l.bytes;
}

abbrev pub decreases-bytes : goal.decreases-bytes
decreases-bytes l = length l.rest
