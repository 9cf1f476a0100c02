use Rattle.std.proofs.Common.{◌≡◌, ◌≤◌, length}
use Rattle.asl_parser_tree.specs.Limits.{too_deep}
use Rattle.asl_parser_tree.proofs.limits.too_deep.Given as goal

abbrev pub invariant-tokens : goal.invariant-tokens
invariant-tokens l = record {
  same : too_deep 250 l.count l.rest ≡ too_deep 250 0 l.tokens;
  small : l.count ≤ 250;
}

abbrev pub decreases-tokens : goal.decreases-tokens
decreases-tokens l = length l.rest
