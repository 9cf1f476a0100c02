use Rattle.std.proofs.Common.{refl}
use Rattle.mas_explore_space.specs.Held.{start_of}
use Rattle.mas_explore_space.proofs.Helds.{grown_worlds}
use Rattle.mas_explore_space.proofs.Sees.{acted_by}
use Rattle.mas_explore_space.proofs.carrying.act_anew.Goals as goal

pub returns-clause-grown : goal.returns-clause-grown
returns-clause-grown g c =
    grown_worlds g.M.Mind.kind (start_of (g.F.FreshWorld.agents c.args.fresh.now) (g.F.FreshWorld.start c.args.fresh.now) (g.F.Fresh.first c.args.fresh.now))
    c.args.held.now (record c.args.held.now { worlds = c.act_in.new.worlds }) c.requires.fits c.in_ok-acted.ensures.grows refl refl refl

pub returns-clause-acted : goal.returns-clause-acted
returns-clause-acted g c =
    acted_by (start_of (g.F.FreshWorld.agents c.args.fresh.now) (g.F.FreshWorld.start c.args.fresh.now) (g.F.Fresh.first c.args.fresh.now))
    c.args.held.now c.requires.fits.worlds (record c.args.held.now { worlds = c.act_in.new.worlds }) c.args.acting c.args.action.now c.in_ok-acted.acted
    c.requires.there c.in_ok-acted.ensures c.requires.action refl
