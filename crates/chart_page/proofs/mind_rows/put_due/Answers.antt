use Rattle.chart_page.proofs.Texts.{grew_same, grew_trans}
use Rattle.chart_page.proofs.mind_rows.put_due.Goals as goal

pub rows-init : goal.rows-init
rows-init c = record { within = c.requires.within; held = c.requires.before; grew = grew_same c.args.out.now }

pub rows-preserved : goal.rows-preserved
rows-preserved c = record {
  within = c.end_of-end.ensures.within;
  held = c.put_row.ensures.texts;
  grew = grew_trans c.args.out.now c.rows.out c.put_row.new.out c.rows.invariant.grew c.put_row.ensures.grew;
}
