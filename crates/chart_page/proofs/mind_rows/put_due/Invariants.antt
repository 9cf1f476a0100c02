-- the lines before stand there
use Rattle.std.proofs.Common.{◌≤◌, ◌-◌, length, take}
use Rattle.chart_page.specs.Minds.{texts_of}
use Rattle.chart_page.specs.Texts.{Grew, HasAll}
use Rattle.chart_page.proofs.mind_rows.put_due.Given as goal

abbrev pub invariant-rows : goal.invariant-rows
invariant-rows l = record {
  within : l.at ≤ length l.lines;
  held : HasAll l.out (take l.at (texts_of l.lines));
  grew : Grew l.fn.out l.out;
}

abbrev pub decreases-rows : goal.decreases-rows
decreases-rows l = length l.lines - l.at
