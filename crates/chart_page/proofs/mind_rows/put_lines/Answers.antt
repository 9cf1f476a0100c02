use Rattle.std.proofs.Common.{◌≡◌, [], get_or, take, subst, arith}
use Rattle.chart_page.specs.Minds.{texts_of}
use Rattle.chart_page.specs.declared.minds.ChangeSign.TheVariants.{Part}
use Rattle.chart_page.specs.declared.minds.MindLine.{MindLine}
use Rattle.chart_page.specs.Texts.{HasAll}
use Rattle.chart_page.proofs.Texts.{adds_grew, all_on, all_step, grew_same, grew_trans}
use Rattle.chart_page.proofs.mind_rows.put_lines.Goals as goal

pub loop-at-init : goal.loop-at-init
loop-at-init c = record { held = c.requires.before; grew = grew_same c.args.out.now }

pub loop-at-preserved : goal.loop-at-preserved
loop-at-preserved c =
    let none : MindLine = record { agent = 0; cycle = 0; ends = 0; turn = 0; sign = Part; text = record { ref_ptr = (0, 0); now = [] } } in
    let lines = c.args.lines.now in
    let at = c.loop-at.at in
    let old = c.loop-at.out in
    let turned = c.put_turn.new.out in
    let new = c.put_line.new.out in
    record {
      held = all_step (λ l. l.text.now) lines turned new at none (omega arith)
          (all_on old turned (take at (texts_of lines)) c.put_turn.ensures c.loop-at.invariant.held) c.put_line.ensures;
      grew = grew_trans c.args.out.now old new c.loop-at.invariant.grew
          (grew_trans old turned new c.put_turn.ensures (adds_grew turned new ((get_or lines at none).text.now) c.put_line.ensures));
    }

pub returns-clause-texts : goal.returns-clause-texts
returns-clause-texts c =
    let e : c.loop-at.at ≡ c.args.to = omega arith in
    subst (λ n. HasAll c.loop-at.out (take n (texts_of c.args.lines.now))) e c.loop-at.invariant.held
