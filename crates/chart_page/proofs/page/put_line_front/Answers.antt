use Rattle.chart_page.proofs.Texts.{grew_trans}
use Rattle.chart_page.proofs.page.put_line_front.Goals as goal

pub returns : goal.returns
returns c = grew_trans c.args.out.now c.fill.new.self c.put_sign.new.out (_, c.fill.ensures) c.put_sign.ensures
