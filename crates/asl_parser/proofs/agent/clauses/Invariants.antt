use Rattle.std.proofs.Common.{◌≡◌, ◌≤◌, ◌+◌, [], length}
use Rattle.asl_lexer.specs.Words.{pieces, is_end}
use Rattle.asl_parser.specs.Answering.{behind, answer_by}
use Rattle.asl_parser.proofs.agent.clauses.Given as goal

abbrev pub invariant-pieces : goal.invariant-pieces
invariant-pieces l = record {
  same : behind l.said (answer_by l.number (pieces is_end l.rest)) ≡ behind [] (answer_by 1 (pieces is_end l.fn.toks));
  small : l.number + length l.rest ≤ length l.fn.toks + 1;
}

abbrev pub decreases-pieces : goal.decreases-pieces
decreases-pieces l = length l.rest
