use Rattle.std.proofs.Common.{◌∙◌, ap, is_some, map, string_bytes, sym}
use Rattle.mas_top_words.specs.Words.{asked}
use Rattle.mas_top_words.proofs.Taking.{read_some}
use Rattle.mas_top_words.proofs.taken.find_apart.Goals as goal

pub asked_apart-requires : goal.asked_apart-requires
asked_apart-requires c =
    ap is_some (sym c.in-Some.ensures) ∙ read_some c.read.result (asked (map string_bytes c.args.words.now)) c.if-is_none.ensures c.read.ensures.value

pub returns-in-Err-clause-starved : goal.returns-in-Err-clause-starved
returns-in-Err-clause-starved c = read_some c.read.result (asked (map string_bytes c.args.words.now)) c.if-is_none.ensures c.read.ensures.value
