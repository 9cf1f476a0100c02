use Rattle.std.proofs.Common.{◌≡◌, ◌+◌, length}
use Rattle.std.specs.List.{prefix_len}
use Rattle.asl_lexer.specs.Spelling.{is_no_feed}
use Rattle.asl_lexer.proofs.blanks.line_len.Given as goal

abbrev pub invariant-bytes : goal.invariant-bytes
invariant-bytes l = record {
  same : l.count + prefix_len is_no_feed l.rest ≡ prefix_len is_no_feed l.bytes;
  length : l.count + length l.rest ≡ length l.bytes;
}

abbrev pub decreases-bytes : goal.decreases-bytes
decreases-bytes l = length l.rest
