use Rattle.std.proofs.Common.{take}
use Rattle.chart_page.specs.Minds.{texts_of}
use Rattle.chart_page.proofs.Texts.{all_on, grew_by, grew_trans}
use Rattle.chart_page.proofs.mind_rows.put_row.Goals as goal

pub put_lines-requires-clause-before : goal.put_lines-requires-clause-before
put_lines-requires-clause-before c =
    all_on c.args.out.now c.put_front.new.out (take c.args.from (texts_of c.args.lines.now)) c.put_front.ensures c.requires.before

pub returns-clause-grew : goal.returns-clause-grew
returns-clause-grew c =
    let old = c.args.out.now in
    let begun = c.put_front.new.out in
    let told = c.put_lines.new.out in
    let whole = c.put.new.self in
    grew_trans old begun whole c.put_front.ensures (grew_trans begun told whole c.put_lines.ensures.grew (grew_by told whole _ c.put.ensures))

pub returns-clause-texts : goal.returns-clause-texts
returns-clause-texts c =
    let told = c.put_lines.new.out in
    let whole = c.put.new.self in
    all_on told whole (take c.args.to (texts_of c.args.lines.now)) (grew_by told whole _ c.put.ensures) c.put_lines.ensures.texts
