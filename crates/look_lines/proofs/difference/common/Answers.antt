use Rattle.std.proofs.Common.{arith, sym, ◌∙◌}
use Rattle.look_lines.proofs.Differences.{both_go_on}
use Rattle.look_lines.proofs.difference.common.Goals as goal

pub loop-at-preserved : goal.loop-at-preserved
loop-at-preserved c =
    both_go_on (λ l. l.now) c.args.lines.now c.args.others.now c.loop-at.at _ _ (omega arith) (omega arith) (sym c.ne.ensures ∙ c.if-ne.false) c.loop-at.invariant
