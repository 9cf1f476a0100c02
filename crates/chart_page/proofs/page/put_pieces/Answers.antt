use Rattle.std.proofs.Common.{[], get_or, map, take, arith}
use Rattle.chart_page.specs.Minds.{texts_of}
use Rattle.chart_page.specs.declared.shown.Piece.{Piece}
use Rattle.chart_page.specs.declared.shown.PieceKind.TheVariants as kind
use Rattle.chart_page.proofs.Texts.{adds_grew, all_end, all_none, all_on, all_step}
use Rattle.chart_page.proofs.page.put_pieces.Goals as goal

pub loop-index-init : goal.loop-index-init
loop-index-init c = record { texts = all_none c.args.out.now; within = omega arith; minds = all_none c.args.out.now }

pub loop-index-preserved : goal.loop-index-preserved
loop-index-preserved c =
    let none : Piece = record { kind = kind.Head; agent = 0; cycle = 0; text = record { ref_ptr = (0, 0); now = [] } } in
    let pieces = c.args.pieces.now in
    let old = c.loop-index.out in
    let due = c.put_due-next.new.out in
    let new = c.put_piece.new.out in
    let inv = c.loop-index.invariant in
    record {
      texts = all_step (λ p. p.text.now) pieces due new c.loop-index.index none (omega arith)
          (all_on old due (take c.loop-index.index (map (λ p. p.text.now) pieces)) c.put_due-next.ensures.grew inv.texts) c.put_piece.ensures;
      within = c.put_due-next.ensures.within;
      minds = all_on due new (take c.put_due-next.result (texts_of c.args.minds.now.lines.now)) (adds_grew due new ((get_or pieces c.loop-index.index none).text.now) c.put_piece.ensures) c.put_due-next.ensures.texts;
    }

pub returns-clause-texts : goal.returns-clause-texts
returns-clause-texts c =
    let old = c.loop-index.out in
    let new = c.put_rest.new.out in
    let pieces = c.args.pieces.now in
    all_on old new (map (λ p. p.text.now) pieces) c.put_rest.ensures.grew
    (all_end (λ p. p.text.now) pieces old c.loop-index.index (omega arith) c.loop-index.invariant.texts)
