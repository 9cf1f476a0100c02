use Rattle.mas_explore_worlds.proofs.Fitting.{has_linked}
use Rattle.mas_explore_worlds.proofs.worlds.number_after.Goals as goal

pub returns : goal.returns
returns g c =
    has_linked (g.F.FreshWorld.agents c.args.fresh.now) (g.F.FreshWorld.start c.args.fresh.now) c.args.worlds.now c.enter.new.self (record { from = c.args.from; what = c.args.doing }) c.in_ok-place.place c.requires.fits c.requires.there c.requires.ground c.in_ok-place.ensures.entered
