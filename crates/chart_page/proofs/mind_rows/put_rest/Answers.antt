use Rattle.std.proofs.Common.{length, take, arith}
use Rattle.chart_page.specs.Minds.{texts_of}
use Rattle.chart_page.proofs.Texts.{all_end, all_on, grew_by, grew_same, grew_trans}
use Rattle.chart_page.proofs.mind_rows.put_rest.Goals as goal

pub returns-then-next-lines-clause-grew : goal.returns-then-next-lines-clause-grew
returns-then-next-lines-clause-grew c = grew_same c.args.out.now

pub returns-then-next-lines-clause-texts : goal.returns-then-next-lines-clause-texts
returns-then-next-lines-clause-texts c = all_end (λ l. l.text.now) c.args.lines.now c.args.out.now c.args.next (omega arith) c.requires.before

pub put_row-requires-clause-before : goal.put_row-requires-clause-before
put_row-requires-clause-before c =
    let begun = c.put.new.self in
    all_on c.args.out.now begun (take c.args.next (texts_of c.args.lines.now)) (grew_by c.args.out.now begun _ c.put.ensures)
    c.requires.before

pub returns-clause-grew : goal.returns-clause-grew
returns-clause-grew c =
    let old = c.args.out.now in
    let begun = c.put.new.self in
    let told = c.put_row.new.out in
    let whole = c.put-2.new.self in
    grew_trans old begun whole (grew_by old begun _ c.put.ensures)
    (grew_trans begun told whole c.put_row.ensures.grew (grew_by told whole _ c.put-2.ensures))

pub returns-clause-texts : goal.returns-clause-texts
returns-clause-texts c =
    let told = c.put_row.new.out in
    let whole = c.put-2.new.self in
    all_on told whole (texts_of c.args.lines.now) (grew_by told whole _ c.put-2.ensures)
    (all_end (λ l. l.text.now) c.args.lines.now told (length c.args.lines.now) (omega arith) c.put_row.ensures.texts)
