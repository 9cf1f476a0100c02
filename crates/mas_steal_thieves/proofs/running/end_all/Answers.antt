use Rattle.mas_steal_thieves.proofs.Ends.{ending_again, ending_keeps}
use Rattle.mas_steal_thieves.proofs.running.end_all.Goals as goal

pub loop-preserved-in-Continue-1 : goal.loop-preserved-in-Continue-1
loop-preserved-in-Continue-1 g c =
    ending_again g.T.ReadyAgent.number g.T.ReadyAgent.home g.T.ReadyAgent.ready (g.W.Turns.ended c.args.work.now) _ _ _ _ _ _ _ _ _ c.loop.invariant c.in-Some-pop_front.ensures.items c.in-Again.ensures c.in_ok-push_back-in-Again.ensures.items

pub loop-preserved-in-Continue-branch-2 : goal.loop-preserved-in-Continue-branch-2
loop-preserved-in-Continue-branch-2 g c =
    ending_again g.T.ReadyAgent.number g.T.ReadyAgent.home g.T.ReadyAgent.ready (g.W.Turns.ended c.args.work.now) _ _ _ _ _ _ _ _ _ c.loop.invariant c.in-Some-pop_front.ensures.items c.in-Ahead.ensures c.in_ok-push_back-in-Ahead.ensures.items

pub loop-preserved : goal.loop-preserved
loop-preserved g c =
    ending_keeps g.T.ReadyAgent.number g.T.ReadyAgent.home g.T.ReadyAgent.ready (g.W.Turns.ended c.args.work.now) _ _ _ _ _ _ _ _ _ c.loop.invariant c.in-Some-pop_front.ensures.items c.in-Ended.ensures c.in_ok-push-in-Ended.ensures.items
