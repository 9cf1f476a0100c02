use Rattle.std.proofs.Common.{◌≡◌, ◌+◌, ◌≤◌, length}
use Rattle.asl_lexer.specs.Lexing.{after}
use Rattle.asl_lexer.proofs.lexing.moved.Given as goal

abbrev pub invariant-bytes : goal.invariant-bytes
invariant-bytes l = record {
  same : after l.here l.rest ≡ after l.fn.place l.text;
  at : l.here.at + length l.rest ≡ l.fn.place.at + length l.text;
  line : l.here.line + length l.rest ≤ l.fn.place.line + length l.text;
  column : l.here.column + length l.rest ≤ l.fn.place.column + length l.text;
}

abbrev pub decreases-bytes : goal.decreases-bytes
decreases-bytes l = length l.rest
