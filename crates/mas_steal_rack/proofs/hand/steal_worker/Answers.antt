use Rattle.std.proofs.Common.{◌∙◌}
use Rattle.mas_steal_rack.proofs.Hands.{working_settles, settled_home}
use Rattle.mas_steal_rack.proofs.hand.steal_worker.Goals as goal

pub loop-preserved : goal.loop-preserved
loop-preserved g c =
    let took = rw c.in-Some-agent.is at c.next-agent.ensures.took in
    let settle = c.settle.ensures in
    record {
      hand = settle.hand;
      keeps = settle.keeps;
      working = working_settles g.T.ReadyAgent.number g.T.ReadyAgent.home g.T.ReadyAgent.ready (g.W.Turns.ended c.args.work.now) c.turn-turned.result c.loop.invariant.working took.1 c.turn-turned.ensures settle.settled;
      home = settled_home g.T.ReadyAgent.number g.T.ReadyAgent.home g.T.ReadyAgent.ready c.turn-turned.result _ _ settle.settled ∙ took.1.home ∙ c.loop.invariant.home;
    }
