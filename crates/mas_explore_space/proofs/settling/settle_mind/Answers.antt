use Rattle.mas_explore_space.specs.Held.{start_of}
use Rattle.mas_explore_space.proofs.Settles.{made_at}
use Rattle.mas_explore_space.proofs.settling.settle_mind.Goals as goal

pub settle-requires-clause-made : goal.settle-requires-clause-made
settle-requires-clause-made g c = made_at g.M.Mind.kind (start_of (g.F.FreshWorld.agents c.args.fresh.now) (g.F.FreshWorld.start c.args.fresh.now) (g.F.Fresh.first c.args.fresh.now)) c.args.held.now c.args.most c.args.row.now c.args.a c.args.seat c.requires.mover
