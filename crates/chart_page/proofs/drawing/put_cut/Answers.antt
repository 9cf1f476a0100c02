use Rattle.chart_page.proofs.Texts.{adds_exact, adds_between, grew_trans}
use Rattle.chart_page.proofs.drawing.put_cut.Goals as goal

pub returns-then-columns-most : goal.returns-then-columns-most
returns-then-columns-most c = adds_exact c.args.out.now c.put_escaped.new.out c.args.text.now c.put_escaped.ensures

pub returns : goal.returns
returns c =
    let old = c.args.out.now in
    let begun = c.put_escaped-2.new.out in
    let dotted = c.put.new.self in
    let told = c.put_escaped-3.new.out in
    adds_between old dotted told c.put-2.new.self c.args.text.now (grew_trans old begun dotted (_, c.put_escaped-2.ensures) (_, c.put.ensures)) c.put_escaped-3.ensures (_, c.put-2.ensures)
