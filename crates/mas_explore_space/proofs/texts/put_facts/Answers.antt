use Rattle.mas_explore_space.specs.Held.{start_of}
use Rattle.mas_explore_space.proofs.Sections.{world_within}
use Rattle.mas_explore_space.proofs.texts.put_facts.Goals as goal

pub world_of-requires-clause-there : goal.world_of-requires-clause-there
world_of-requires-clause-there g c =
    world_within g.M.Mind.kind (start_of (g.F.FreshWorld.agents c.args.fresh.now) (g.F.FreshWorld.start c.args.fresh.now) (g.F.Fresh.first c.args.fresh.now)) c.args.held.now c.args.state c.args.row.now c.requires.stands c.requires.fits
