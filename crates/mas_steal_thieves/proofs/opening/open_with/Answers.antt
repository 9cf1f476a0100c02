use Rattle.std.proofs.Common.{◌∙◌}
use Rattle.mas_steal_thieves.proofs.Dealings.{opens, not_dry}
use Rattle.mas_steal_thieves.proofs.opening.open_with.Goals as goal

pub pop-requires : goal.pop-requires
pop-requires g c = record { «open» = (opens g.T.ReadyAgent.number g.T.ReadyAgent.home g.T.ReadyAgent.ready _ _ c.open.ensures.put, c.open.ensures.same.0.1 ∙ c.requires.new.1) }

pub unreachable-requires : goal.unreachable-requires
unreachable-requires g c = not_dry g.T.ReadyAgent.number g.T.ReadyAgent.home g.T.ReadyAgent.ready c.args.agent _ _ c.open.ensures.put c.in-None.ensures.rule
