use Rattle.std.specs.String.{string_bytes}
use Rattle.chart_page.proofs.Shows.{shown_in}
use Rattle.chart_page.proofs.answer.answer.Goals as goal

pub returns-in-Ok-clause-shown : goal.returns-in-Ok-clause-shown
returns-in-Ok-clause-shown g c =
    shown_in c.args.choice (g.W.Write.contents c.args.output.now) (g.W.Write.contents c.write_all.new.self) (g.R.Read.remaining c.args.input.now)
    (string_bytes c.in_ok-text.text) c.as_bytes.result.now c.in_ok-made.made.items c.as_slice.result.now
    c.as_bytes.ensures.value c.as_slice.ensures.value c.in_ok-made.ensures.whole c.in_ok-made.ensures.shown c.in-Ok.ensures.bytes c.in_ok-text.ensures.text
