use Rattle.std.proofs.Common.{◌∙◌, ◌≡◌, ap}
use Rattle.clap.specs.Matches.{found_of}
use Rattle.clap.specs.Walk.{rows_of}
use Rattle.mas_top_words.specs.Asked.{asked_by}
use Rattle.mas_top_words.specs.Taken.{said_among}
use Rattle.mas_top_words.specs.Words.{WordsSoFar, said_of, text_for}
use Rattle.mas_top_words.proofs.Taking.{taken_same}
use Rattle.mas_top_words.proofs.taken.asked_apart.Goals as goal

pub returns : goal.returns
returns c =
    let rows = rows_of (found_of c.in_ok-matches.matches) in
    let s : said_of c.said_by-said.result ≡ said_among c.args.command rows = c.said_by-said.ensures in
    c.asked_by.ensures ∙ ap (λ (x : WordsSoFar). asked_by c.args.command x.names (text_for x.given)) s
    ∙ taken_same c.args.command _ rows c.requires c.in_ok-matches.ensures
