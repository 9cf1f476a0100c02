use Rattle.std.proofs.Common.{refl}
use Rattle.mas_explore_space.specs.Held.{start_of}
use Rattle.mas_explore_space.proofs.Helds.{grown_minds}
use Rattle.mas_explore_space.proofs.Sees.{seen_by}
use Rattle.mas_explore_space.proofs.thinking.see_anew.Goals as goal

pub returns-clause-grown : goal.returns-clause-grown
returns-clause-grown g c =
    grown_minds g.M.Mind.kind (start_of (g.F.FreshWorld.agents c.args.fresh.now) (g.F.FreshWorld.start c.args.fresh.now) (g.F.Fresh.first c.args.fresh.now))
    c.args.held.now (record c.args.held.now { minds = c.number_sight.new.minds }) c.requires.fits c.in_ok-sight.ensures.grown refl refl refl

pub returns-clause-seen : goal.returns-clause-seen
returns-clause-seen g c =
    seen_by (start_of (g.F.FreshWorld.agents c.args.fresh.now) (g.F.FreshWorld.start c.args.fresh.now) (g.F.Fresh.first c.args.fresh.now))
    c.args.held.now c.requires.fits.worlds (record c.args.held.now { minds = c.number_sight.new.minds }) c.args.seeing c.in_ok-percepts.percepts c.in_ok-sight.sight
    c.requires.there c.in_ok-percepts.ensures.seen c.in_ok-percepts.ensures.ground c.in_ok-sight.ensures.at refl
