-- the lines before stand there
use Rattle.std.proofs.Common.{take}
use Rattle.chart_page.specs.Minds.{texts_of}
use Rattle.chart_page.specs.Texts.{Grew, HasAll}
use Rattle.chart_page.proofs.mind_rows.put_lines.Given as goal

abbrev pub invariant-loop-at : goal.invariant-loop-at
invariant-loop-at l = record { held : HasAll l.out (take l.at (texts_of l.lines)); grew : Grew l.fn.out l.out }
