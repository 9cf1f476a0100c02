use Rattle.std.proofs.Common.{◌≤◌, length}
use Rattle.asl_parser_expr.specs.Places.{NoLonger}
use Rattle.asl_parser_expr.proofs.places.longest.Given as goal

abbrev pub invariant-lengths : goal.invariant-lengths
invariant-lengths l = record {
  none : NoLonger l.tokens l.count;
  within : l.count ≤ length l.tokens;
}

abbrev pub decreases-lengths : goal.decreases-lengths
decreases-lengths l = l.count
