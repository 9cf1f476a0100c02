use Rattle.std.proofs.Common.{[], arith}
use Rattle.chart_page.specs.declared.shown.Piece.{Piece}
use Rattle.chart_page.specs.declared.shown.PieceKind.TheVariants as kind
use Rattle.chart_page.proofs.Texts.{all_none, all_step, all_end}
use Rattle.chart_page.proofs.picture.put_pieces.Goals as goal

pub loop-index-init : goal.loop-index-init
loop-index-init c = all_none c.args.out.now

pub loop-index-preserved : goal.loop-index-preserved
loop-index-preserved c =
    let none : Piece = record { kind = kind.Head; agent = 0; cycle = 0; text = record { ref_ptr = (0, 0); now = [] } } in
    all_step (λ p. p.text.now) c.args.pieces.now c.loop-index.out c.put_piece.new.out c.loop-index.index none (omega arith) c.loop-index.invariant
    c.put_piece.ensures

pub returns : goal.returns
returns c = all_end (λ p. p.text.now) c.args.pieces.now c.loop-index.out c.loop-index.index (omega arith) c.loop-index.invariant
