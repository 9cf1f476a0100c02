-- What is made of parts that were read.
use Rattle.std.specs.Prelude.{Option, Some}
use Rattle.asl_parser_tree.specs.declared.making.Operands.{Operands}
use Rattle.asl_parser_tree.specs.declared.making.Operands.TheVariants as making
use Rattle.asl_parser_tree.specs.Holding.{Bounds, Kept, joined, compared, prefixed, called, literal_held, listing_held}

abbrev pub made : Bounds → Operands → Option Kept
made b (making.Joined joint left right) = joined b joint left right
made b (making.Compared op left right) = compared b op left right
made b (making.Prefixed before m) = prefixed b before m
made b (making.Called name all) = called b name.now all.items
made b (making.Literal l) = Some (literal_held b l)
made b (making.Listing l) = Some (listing_held b l)
