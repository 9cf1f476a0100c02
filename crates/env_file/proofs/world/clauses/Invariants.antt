use Rattle.std.proofs.Common.{◌≡◌, ◌≤◌, ◌+◌, length}
use Rattle.asl_lexer.specs.Words.{pieces, is_end}
use Rattle.env_file.specs.Worlds.{nothing}
use Rattle.env_file.specs.Answering.{answer_by}
use Rattle.env_file.proofs.world.clauses.Given as goal

abbrev pub invariant-pieces : goal.invariant-pieces
invariant-pieces l = record {
  same : answer_by l.artifacts l.number l.text (pieces is_end l.rest) ≡ answer_by l.artifacts 1 nothing (pieces is_end l.fn.toks);
  small : l.number + length l.rest ≤ length l.fn.toks + 1;
}

abbrev pub decreases-pieces : goal.decreases-pieces
decreases-pieces l = length l.rest
