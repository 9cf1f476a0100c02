use Rattle.std.proofs.Common.{length}
use Rattle.asl_parser_tree.specs.Holding.{limited}
use Rattle.asl_parser.specs.Speaking.{item_by, item_list_by}
use Rattle.asl_parser.proofs.Body.{ItemsLeft}
use Rattle.asl_parser.proofs.clauses.item_list.Given as goal

abbrev pub invariant-items : goal.invariant-items
invariant-items l = ItemsLeft (item_by limited l.depth) l.all l.rest (item_list_by (item_by limited l.depth) (length l.tokens) l.tokens)

abbrev pub decreases-items : goal.decreases-items
decreases-items l = length l.rest
