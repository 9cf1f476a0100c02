-- the pieces before stand there
use Rattle.std.proofs.Common.{map, take}
use Rattle.chart_page.specs.Texts.{HasAll}
use Rattle.chart_page.proofs.picture.put_pieces.Given as goal

abbrev pub invariant-loop-index : goal.invariant-loop-index
invariant-loop-index l = HasAll l.out (take l.index (map (λ p. p.text.now) l.pieces))
