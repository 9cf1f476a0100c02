use Rattle.std.proofs.Common.{◌≡◌, ◌+◌, length}
use Rattle.asl_lexer.specs.Words.{piece_len}
use Rattle.asl_lexer.proofs.pieces.piece_len.Given as goal

abbrev pub invariant-toks : goal.invariant-toks
invariant-toks g l = record {
  same : l.count + piece_len g.E.Ends.ends l.rest ≡ piece_len g.E.Ends.ends l.toks;
  length : l.count + length l.rest ≡ length l.toks;
}

abbrev pub decreases-toks : goal.decreases-toks
decreases-toks g l = length l.rest
