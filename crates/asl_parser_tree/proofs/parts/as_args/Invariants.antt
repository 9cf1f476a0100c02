use Rattle.std.proofs.Common.{◌≡◌, ◌+◌, length}
use Rattle.asl_parser_tree.specs.Holding.{limited, args_behind, as_args}
use Rattle.asl_parser_tree.proofs.parts.as_args.Given as goal

abbrev pub invariant-meanings : goal.invariant-meanings
invariant-meanings l = record {
  same : args_behind limited l.name l.place l.args l.h-iterator.rest.items ≡ as_args limited l.name l.fn.all.items;
  small : l.place + length l.h-iterator.rest.items ≡ length l.fn.all.items;
}
