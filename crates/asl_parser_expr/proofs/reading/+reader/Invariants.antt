use Rattle.std.proofs.Common.{length, ◌+◌, ◌*◌}
use Rattle.asl_parser_tree.specs.Holding.{limited}
use Rattle.asl_parser_expr.specs.Reading.{level_by, operand_by, base_by, items_by, inside}
use Rattle.asl_parser_expr.proofs.Loop.{rank, prefix_rank, Continues, Passed}
use Rattle.asl_parser_expr.proofs.Items.{ItemsLeft}
use Rattle.asl_parser_expr.proofs.reading.+reader.Given as goal

abbrev pub decreases-operand : goal.decreases-operand
decreases-operand l = 40 * l.depth + rank l.level

abbrev pub decreases-step : goal.decreases-step
decreases-step l = 40 * l.depth + rank l.level + 1

abbrev pub decreases-chain : goal.decreases-chain
decreases-chain l = 40 * l.depth + rank l.level + 2

abbrev pub invariant-chain-steps : goal.invariant-chain-steps
invariant-chain-steps l = Continues limited (operand_by limited (inside limited l.depth) l.level) l.level l.left l.rest (level_by limited (inside limited l.depth) l.level l.tokens)

abbrev pub decreases-chain-steps : goal.decreases-chain-steps
decreases-chain-steps l = length l.rest

abbrev pub decreases-base : goal.decreases-base
decreases-base l = 40 * l.depth + prefix_rank l.before

abbrev pub decreases-prefix : goal.decreases-prefix
decreases-prefix l = 40 * l.depth + prefix_rank l.before + 1

abbrev pub invariant-prefix-prefixes : goal.invariant-prefix-prefixes
invariant-prefix-prefixes l = Passed limited l.before (base_by limited (inside limited l.depth) l.before) l.count l.rest l.tokens

abbrev pub decreases-prefix-prefixes : goal.decreases-prefix-prefixes
decreases-prefix-prefixes l = length l.rest

abbrev pub decreases-side : goal.decreases-side
decreases-side l = 40 * l.depth + 14

abbrev pub decreases-relation : goal.decreases-relation
decreases-relation l = 40 * l.depth + 15

abbrev pub decreases-primary : goal.decreases-primary
decreases-primary l = 40 * l.depth + 5

abbrev pub decreases-bracketed : goal.decreases-bracketed
decreases-bracketed l = 40 * l.depth

abbrev pub decreases-filled : goal.decreases-filled
decreases-filled l = 40 * l.depth

abbrev pub decreases-parts : goal.decreases-parts
decreases-parts l = 40 * l.depth + 1

abbrev pub decreases-items : goal.decreases-items
decreases-items l = 40 * l.depth + rank l.level + 3

abbrev pub invariant-items-items : goal.invariant-items-items
invariant-items-items l = ItemsLeft (level_by limited (inside limited l.depth) l.level) l.all.items l.rest (items_by (level_by limited (inside limited l.depth) l.level) (length l.tokens) l.tokens)

abbrev pub decreases-items-items : goal.decreases-items-items
decreases-items-items l = length l.rest

abbrev pub decreases-terms : goal.decreases-terms
decreases-terms l = 40 * l.depth + 2

abbrev pub decreases-unsigned : goal.decreases-unsigned
decreases-unsigned l = 40 * l.depth + 3

abbrev pub decreases-literal : goal.decreases-literal
decreases-literal l = 40 * l.depth + 4

abbrev pub decreases-call : goal.decreases-call
decreases-call l = 40 * l.depth + 2

abbrev pub decreases-list : goal.decreases-list
decreases-list l = 40 * l.depth

abbrev pub decreases-body : goal.decreases-body
decreases-body l = 40 * l.depth + 16

abbrev pub decreases-some : goal.decreases-some
decreases-some l = 40 * l.depth + 15

abbrev pub decreases-tail : goal.decreases-tail
decreases-tail l = 40 * l.depth + 1
