use Rattle.std.proofs.Common.{◌≡◌}
use Rattle.asl_parser_tree.specs.Holding.{limited, terms_behind, as_terms}
use Rattle.asl_parser_tree.proofs.parts.as_terms.Given as goal

abbrev pub invariant-meanings : goal.invariant-meanings
invariant-meanings l = terms_behind limited l.terms l.h-iterator.rest.items ≡ as_terms limited l.fn.all.items
