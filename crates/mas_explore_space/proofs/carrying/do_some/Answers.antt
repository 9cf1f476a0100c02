use Rattle.mas_explore_space.specs.Held.{start_of}
use Rattle.mas_explore_space.proofs.Doings.{world_there, may_tell, done_some}
use Rattle.mas_explore_space.proofs.carrying.do_some.Goals as goal

pub act-requires-clause-there : goal.act-requires-clause-there
act-requires-clause-there g c =
    world_there g.M.Mind.kind (start_of (g.F.FreshWorld.agents c.args.fresh.now) (g.F.FreshWorld.start c.args.fresh.now) (g.F.Fresh.first c.args.fresh.now)) c.args.held.now c.args.acting c.args.mind c.args.action.now c.requires.fits c.requires.may

pub tell-requires-clause-may : goal.tell-requires-clause-may
tell-requires-clause-may g c =
    may_tell g.M.Mind.kind (start_of (g.F.FreshWorld.agents c.args.fresh.now) (g.F.FreshWorld.start c.args.fresh.now) (g.F.Fresh.first c.args.fresh.now)) c.args.held.now c.act.new.held c.args.acting c.args.mind c.args.action.now c.in_ok-acted.acted.feedback c.requires.may c.in_ok-acted.ensures.grown.grows

pub returns : goal.returns
returns g c =
    done_some g.M.Mind.kind (start_of (g.F.FreshWorld.agents c.args.fresh.now) (g.F.FreshWorld.start c.args.fresh.now) (g.F.Fresh.first c.args.fresh.now)) c.args.held.now c.act.new.held c.tell.new.held c.args.acting c.args.mind c.in_ok-told.told c.args.action.now c.in_ok-acted.acted c.requires.may
    c.in_ok-acted.ensures.grown c.in_ok-acted.ensures.acted c.in_ok-told.ensures.grown c.in_ok-told.ensures.told
