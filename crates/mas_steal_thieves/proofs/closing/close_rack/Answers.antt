use Rattle.mas_steal_thieves.proofs.Runs.{close_open}
use Rattle.mas_steal_thieves.proofs.Whole.{all_whole, all_closed}
use Rattle.mas_steal_thieves.proofs.closing.close_rack.Goals as goal

pub take_rows-requires-clause-open : goal.take_rows-requires-clause-open
take_rows-requires-clause-open g c = close_open g.T.ReadyAgent.number g.T.ReadyAgent.home g.T.ReadyAgent.ready _ c.args.rack.now c.args.hands.items _ c.requires.worked c.in_ok-owners.ensures.owners

pub drain_all-requires : goal.drain_all-requires
drain_all-requires g c = record {
  whole = all_whole g.T.ReadyAgent.number g.T.ReadyAgent.home g.T.ReadyAgent.ready _ c.args.rack.now c.args.hands.items _ _ _ c.requires.worked c.in_ok-owners.ensures.owners c.in_ok-owners.ensures.rows c.take_rows.ensures;
}

pub returns-clause-closed : goal.returns-clause-closed
returns-clause-closed g c =
    all_closed g.T.ReadyAgent.number g.T.ReadyAgent.home g.T.ReadyAgent.ready c.args.hands.items _ _ _ _ _ c.in_ok-owners.ensures.owners c.in_ok-owners.ensures.rows c.in_ok-owners.ensures.kept c.take_rows.ensures c.in_ok-left.ensures.drains
