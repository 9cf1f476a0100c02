use Rattle.std.proofs.Common.{◌≡◌, ◌-◌, Some}
use Rattle.asl_parser_tree.specs.Holding.{limited}
use Rattle.asl_parser_expr.specs.Reading.{wrapped}
use Rattle.asl_parser_expr.proofs.reading.wraps.Given as goal

abbrev pub invariant-wraps : goal.invariant-wraps
invariant-wraps l = wrapped limited l.before (l.count - l.counter) (Some (l.whole, l.rest)) ≡ wrapped limited l.before l.count (Some (l.fn.m, l.rest))
