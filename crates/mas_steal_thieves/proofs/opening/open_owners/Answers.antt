use Rattle.std.proofs.Common.{arith}
use Rattle.mas_steal_thieves.proofs.Dealings.{opening_first, opening_more, opening_ends}
use Rattle.mas_steal_thieves.proofs.opening.open_owners.Goals as goal

pub loop-opened-init : goal.loop-opened-init
loop-opened-init g c = opening_first g.T.ReadyAgent.number g.T.ReadyAgent.home g.T.ReadyAgent.ready _ _ _ c.requires.ready c.new-owners.ensures.items

pub open_with-agent-requires-clause-ready : goal.open_with-agent-requires-clause-ready
open_with-agent-requires-clause-ready g c = c.loop-opened.invariant.agent.ready

pub loop-opened-preserved : goal.loop-opened-preserved
loop-opened-preserved g c =
    let new = c.in_ok-own.ensures in
    let with = c.open_with-agent.ensures in
    opening_more g.T.ReadyAgent.number g.T.ReadyAgent.home g.T.ReadyAgent.ready c.args.first c.loop-opened.agent c.open_with-agent.result c.loop-opened.opened c.args.block c.loop-opened.owners.items _ c.in_ok-own.own c.open_with-agent.new.own
    c.loop-opened.invariant new.1 new.3 new.0 with.same.0 with.same.1 with.started with.agent c.in_ok-push.ensures.items

pub returns-clause-owners : goal.returns-clause-owners
returns-clause-owners g c = opening_ends g.T.ReadyAgent.number g.T.ReadyAgent.home g.T.ReadyAgent.ready _ _ c.loop-opened.opened c.args.workers _ _ c.loop-opened.invariant (omega arith)

pub returns-clause-first : goal.returns-clause-first
returns-clause-first g c = c.loop-opened.invariant.agent
