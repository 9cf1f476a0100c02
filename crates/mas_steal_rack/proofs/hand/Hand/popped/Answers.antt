use Rattle.std.proofs.Common.{refl}
use Rattle.mas_steal_rack.proofs.Hands.{owned}
use Rattle.mas_steal_rack.proofs.hand.Hand.popped.Goals as goal

pub returns-clause-took : goal.returns-clause-took
returns-clause-took g c = owned g.T.ReadyAgent.number g.T.ReadyAgent.home g.T.ReadyAgent.ready c.pop.result c.args.self.now _ refl refl refl refl c.pop.ensures.rule
