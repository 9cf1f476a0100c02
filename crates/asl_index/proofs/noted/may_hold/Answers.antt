use Rattle.std.proofs.Common.{sym, ◌∙◌, arith}
use Rattle.asl_beliefs.specs.Changes.{is_held}
use Rattle.asl_beliefs.specs.Sources.{source_percept}
use Rattle.asl_index.proofs.Perceiving.{no_mark, held_past}
use Rattle.asl_index.proofs.noted.may_hold.Goals as goal

pub loop-t-preserved : goal.loop-t-preserved
loop-t-preserved c =
    let t = c.t-item.result in
    let annots = c.args.annots.now in
    held_past annots c.loop-t.t-index t (is_held annots source_percept) (omega (arith, c.loop-t-test.true)) c.t-item.is
    (no_mark t (sym c.may_be_percept.ensures ∙ c.if-may_be_percept.false)) c.loop-t.invariant
