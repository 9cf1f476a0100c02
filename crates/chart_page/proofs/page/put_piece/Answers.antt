use Rattle.chart_page.proofs.Texts.{adds_between}
use Rattle.chart_page.proofs.page.put_piece.Goals as goal

pub returns : goal.returns
returns c =
    adds_between c.args.out.now c.put_before.new.out c.put_escaped.new.out c.put_behind.new.out c.args.piece.now.text.now
    c.put_before.ensures c.put_escaped.ensures c.put_behind.ensures
