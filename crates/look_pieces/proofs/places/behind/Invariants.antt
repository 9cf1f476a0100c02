use Rattle.std.proofs.Common.{◌≡◌, ◌+◌, ◌≤◌, length}
use Rattle.asl_lexer.specs.Lexing.{after, start}
use Rattle.look_pieces.proofs.places.behind.Given as goal

abbrev pub invariant-bytes : goal.invariant-bytes
invariant-bytes l = record {
  same : after l.here l.rest ≡ after start l.fn.text;
  at : l.here.at + length l.rest ≡ length l.fn.text;
  line : l.here.line + length l.rest ≤ length l.fn.text + 1;
  column : l.here.column + length l.rest ≤ length l.fn.text + 1;
}

abbrev pub decreases-bytes : goal.decreases-bytes
decreases-bytes l = length l.rest
