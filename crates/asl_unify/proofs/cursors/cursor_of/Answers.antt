use Rattle.std.proofs.Common.{rules}
use Rattle.asl_unify.proofs.Portions.{places_more}
use Rattle.asl_unify.proofs.cursors.cursor_of.Goals as goal

pub loop-frame-preserved : goal.loop-frame-preserved
loop-frame-preserved c =
    places_more c.args.stack.now c.loop-frame.frame-index c.frame-item.result c.loop-frame.r c.push.new.self (search rules) (search rules)
    c.loop-frame.invariant
    c.in_ok-push.ensures.ok
