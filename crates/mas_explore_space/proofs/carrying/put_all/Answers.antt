use Rattle.std.proofs.Common.{List, [], ◌∷◌, subst}
use Rattle.mas_explore_space.specs.Held.{start_of}
use Rattle.mas_explore_space.proofs.Posts.{puts_none, next_sent, puts_on}
use Rattle.mas_explore_space.proofs.carrying.put_all.Goals as goal

pub loop-m-init : goal.loop-m-init
loop-m-init g c =
    puts_none g.M.Mind.kind (start_of (g.F.FreshWorld.agents c.args.fresh.now) (g.F.FreshWorld.start c.args.fresh.now) (g.F.Fresh.first c.args.fresh.now)) c.args.held.now c.args.most c.args.a c.args.row c.args.messages c.reverse.new.self c.requires.fits c.requires.stands c.requires.sent c.reverse.ensures

pub put_one-requires-clause-sent : goal.put_one-requires-clause-sent
put_one-requires-clause-sent g c =
    next_sent g.M.Mind.kind (start_of (g.F.FreshWorld.agents c.args.fresh.now) (g.F.FreshWorld.start c.args.fresh.now) (g.F.Fresh.first c.args.fresh.now)) c.args.held.now c.loop-m.held c.args.most c.args.a c.args.row c.loop-m.row c.args.messages c.loop-m.rest c.pop.new.self c.in-Some.m c.loop-m.invariant
    c.in-Some.ensures.items

pub loop-m-preserved : goal.loop-m-preserved
loop-m-preserved g c =
    puts_on g.M.Mind.kind (start_of (g.F.FreshWorld.agents c.args.fresh.now) (g.F.FreshWorld.start c.args.fresh.now) (g.F.Fresh.first c.args.fresh.now)) c.args.held.now c.loop-m.held c.put_one.new.held c.args.most c.args.a c.args.row c.loop-m.row c.in_ok-next.next c.args.messages c.loop-m.rest c.pop.new.self
    c.in-Some.m c.loop-m.invariant c.in-Some.ensures.items c.in_ok-next.ensures
