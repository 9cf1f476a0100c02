use Rattle.std.proofs.Common.{refl}
use Rattle.mas_explore_space.specs.Held.{start_of}
use Rattle.mas_explore_space.proofs.Helds.{grown_minds}
use Rattle.mas_explore_space.proofs.boxes.keep_box.Goals as goal

pub returns-clause-grown : goal.returns-clause-grown
returns-clause-grown g c =
    grown_minds g.M.Mind.kind (start_of (g.F.FreshWorld.agents c.args.fresh.now) (g.F.FreshWorld.start c.args.fresh.now) (g.F.Fresh.first c.args.fresh.now))
    c.args.held.now (record c.args.held.now { minds = c.number_box.new.minds }) c.requires c.in_ok-n.ensures.grown refl refl refl
