use Rattle.std.proofs.Common.{◌≤◌, ◌+◌, length}
use Rattle.asl_lexer.specs.Words.{pieces, is_end}
use Rattle.look_pieces.specs.Telling.{refused}
use Rattle.look_pieces.proofs.Told.{Left}
use Rattle.look_pieces.proofs.agents.pieces_told.Given as goal

abbrev pub invariant-pieces : goal.invariant-pieces
invariant-pieces l = record {
  left : Left l.number (pieces is_end l.rest) (refused 1 (pieces is_end l.fn.toks)) l.all;
  small : l.number + length l.rest ≤ length l.fn.toks + 1;
}

abbrev pub decreases-pieces : goal.decreases-pieces
decreases-pieces l = length l.rest
