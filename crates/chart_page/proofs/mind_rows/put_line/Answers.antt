use Rattle.chart_page.proofs.Texts.{adds_between}
use Rattle.chart_page.proofs.mind_rows.put_line.Goals as goal

pub returns : goal.returns
returns c =
    adds_between c.args.out.now c.put_line_front.new.out c.put_escaped.new.out c.put.new.self c.args.line.now.text.now
    c.put_line_front.ensures c.put_escaped.ensures (_, c.put.ensures)
