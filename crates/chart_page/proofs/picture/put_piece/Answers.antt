use Rattle.chart_page.proofs.Texts.{adds_after, adds_before}
use Rattle.chart_page.proofs.picture.put_piece.Goals as goal

pub returns : goal.returns
returns c =
    let text = c.args.piece.now.text.now in
    let old = c.args.out.now in
    let opened = c.put_open.new.out in
    let told = c.put_cut.new.out in
    adds_before old told c.put.new.self text (adds_after old opened told text c.put_open.ensures c.put_cut.ensures) (_, c.put.ensures)
