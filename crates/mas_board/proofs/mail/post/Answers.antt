use Rattle.std.proofs.Common.{[], ◌∷◌, sym, ap, subst, length, arith}
use Rattle.std.proofs.lemmas.List.{length-append}
use Rattle.mas_board.specs.Posts.{AreEmpty}
use Rattle.mas_board.proofs.Boxes as b
use Rattle.mas_board.proofs.mail.post.Goals as goal

pub loop-preserved : goal.loop-preserved
loop-preserved c =
    let longer = c.in_ok-push.ensures.ok in
    let more = ap length longer in
    let one = length-append c.loop.boxes (c.new.result ∷ []) in
    let before = c.loop.invariant.0 in (
      omega (arith, more, one, before),
      subst AreEmpty (sym longer) (b.empty_push c.loop.boxes c.new.result c.loop.invariant.1 c.new.ensures),
    )
