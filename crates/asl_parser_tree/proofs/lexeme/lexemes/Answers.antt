use Rattle.std.proofs.Common.{◌≡◌, length, rules}
use Rattle.asl_parser_tree.proofs.Numbering.{none_left}
use Rattle.asl_parser_tree.proofs.lexeme.lexemes.Goals as goal

pub returns : goal.returns
returns c =
    let empty : length c.toks.rest.now ≡ 0 = search rules in
    none_left c.toks.all.items c.toks.k c.toks.rest.now _ empty c.toks.invariant.same
