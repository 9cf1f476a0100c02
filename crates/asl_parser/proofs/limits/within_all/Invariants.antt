use Rattle.std.proofs.Common.{◌≡◌, length}
use Rattle.std.specs.List.{list_all}
use Rattle.asl_parser.specs.Limits.{within_formula}
use Rattle.asl_parser.proofs.limits.within_all.Given as goal

abbrev pub invariant-formulas : goal.invariant-formulas
invariant-formulas l = list_all within_formula l.rest ≡ list_all within_formula l.fs

abbrev pub decreases-formulas : goal.decreases-formulas
decreases-formulas l = length l.rest
