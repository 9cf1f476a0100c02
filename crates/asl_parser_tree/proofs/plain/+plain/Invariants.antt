use Rattle.std.proofs.Common.{◌≡◌, map, drop}
use Rattle.asl_term.specs.Trees as tree
use Rattle.asl_parser_tree.specs.Plain.{is_plain}
use Rattle.asl_parser_tree.proofs.plain.+plain.Given as goal

abbrev pub invariant-are_plain-loop-t : goal.invariant-are_plain-loop-t
invariant-are_plain-loop-t l = tree.all (map is_plain (drop l.t-index l.ts)) ≡ tree.all (map is_plain l.ts)
