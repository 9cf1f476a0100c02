-- the pieces before stand there, and the lines of minds before
use Rattle.std.proofs.Common.{◌≤◌, length, map, take}
use Rattle.chart_page.specs.Minds.{texts_of}
use Rattle.chart_page.specs.Texts.{HasAll}
use Rattle.chart_page.proofs.page.put_pieces.Given as goal

abbrev pub invariant-loop-index : goal.invariant-loop-index
invariant-loop-index l = record {
  texts : HasAll l.out (take l.index (map (λ p. p.text.now) l.pieces));
  within : l.next ≤ length l.minds.lines.now;
  minds : HasAll l.out (take l.next (texts_of l.minds.lines.now));
}
