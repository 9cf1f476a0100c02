use Rattle.look_lines.proofs.Differences.{behind_front}
use Rattle.look_lines.proofs.difference.minus.Goals as goal

pub loop-other-init : goal.loop-other-init
loop-other-init c =
    behind_front (λ l. l.now) c.args.lines.now c.args.others.now c.common-front.result c.in_ok-left.left.items c.in_ok-left.ensures.items c.common-front.ensures.same
