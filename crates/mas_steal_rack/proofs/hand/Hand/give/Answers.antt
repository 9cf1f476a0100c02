use Rattle.std.proofs.Common.{refl}
use Rattle.mas_steal_rack.proofs.Hands.{put_own, put_listed}
use Rattle.mas_steal_rack.proofs.hand.Hand.give.Goals as goal

pub returns-in-Ok-clause-moved : goal.returns-in-Ok-clause-moved
returns-in-Ok-clause-moved g c = put_own g.T.ReadyAgent.number g.T.ReadyAgent.home g.T.ReadyAgent.ready c.args.self.now _ c.args.agent c.requires.waits refl refl refl refl c.in-Ok.ensures.rule.0

pub returns-in-Err-clause-moved : goal.returns-in-Err-clause-moved
returns-in-Err-clause-moved g c =
    put_listed g.T.ReadyAgent.number g.T.ReadyAgent.home g.T.ReadyAgent.ready c.args.self.now _ c.args.agent c.in-Err.back c.in-Err.ensures.rule.0 refl refl c.push_back_reserved.ensures.items refl c.in-Err.ensures.rule.1
