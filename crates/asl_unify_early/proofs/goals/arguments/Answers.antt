use Rattle.std.proofs.Common.{rules}
use Rattle.asl_unify_early.proofs.Settling.{one_settled}
use Rattle.asl_unify_early.proofs.goals.arguments.Goals as goal

pub loop-t-preserved : goal.loop-t-preserved
loop-t-preserved c =
    one_settled c.args.s.now c.args.ts.now c.loop-t.r c.push.new.self c.loop-t.t-index c.in_ok-argument.field-0 c.t-item.result c.loop-t.invariant (search rules) (search rules)
    c.in_ok-argument.ensures c.in_ok-push.ensures.ok
