use Rattle.std.proofs.Common.{◌≡◌, ◌≤◌, ◌+◌, ◌++◌, length}
use Rattle.asl_parser_tree.specs.Lexemes.{lexemes_from, lexemes}
use Rattle.asl_parser_tree.proofs.lexeme.lexemes.Given as goal

abbrev pub invariant-toks : goal.invariant-toks
invariant-toks l = record {
  same : l.all.items ++ lexemes_from l.k l.rest ≡ lexemes l.toks;
  small : l.k + length l.rest ≤ length l.toks + 1;
}

abbrev pub decreases-toks : goal.decreases-toks
decreases-toks l = length l.rest
