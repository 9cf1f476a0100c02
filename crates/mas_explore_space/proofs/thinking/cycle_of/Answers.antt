use Rattle.std.proofs.Common.{refl}
use Rattle.mas_explore_space.specs.Held.{start_of}
use Rattle.mas_explore_space.proofs.Helds.{grows_then, seen_on}
use Rattle.mas_explore_space.proofs.Cycles.{mover_world, mover_box, mover_may, has_cycled}
use Rattle.mas_explore_space.proofs.thinking.cycle_of.Goals as goal

pub see-requires-clause-there : goal.see-requires-clause-there
see-requires-clause-there g c =
    mover_world g.M.Mind.kind (start_of (g.F.FreshWorld.agents c.args.fresh.now) (g.F.FreshWorld.start c.args.fresh.now) (g.F.Fresh.first c.args.fresh.now)) c.args.held.now c.args.state c.args.row.now c.args.a c.args.seat c.requires.mover

pub keep_front-requires-clause-there : goal.keep_front-requires-clause-there
keep_front-requires-clause-there g c =
    mover_box g.M.Mind.kind (start_of (g.F.FreshWorld.agents c.args.fresh.now) (g.F.FreshWorld.start c.args.fresh.now) (g.F.Fresh.first c.args.fresh.now)) c.args.held.now c.args.state c.args.row.now c.args.a c.args.seat c.requires.mover c.see.new.held c.in_ok-sight.ensures.grown.grows

pub think_on-requires-clause-may : goal.think_on-requires-clause-may
think_on-requires-clause-may g c =
    let k = g.M.Mind.kind in
    let s = start_of (g.F.FreshWorld.agents c.args.fresh.now) (g.F.FreshWorld.start c.args.fresh.now) (g.F.Fresh.first c.args.fresh.now) in
    let x = c.in_ok-sight.ensures in
    let y = c.in_ok-front.ensures in
    mover_may k s c.args.held.now c.args.state c.args.row.now c.args.a c.args.seat c.requires.mover c.requires.idle c.keep_front.new.held c.in_ok-sight.sight c.in_ok-front.front c.requires.short
    (grows_then k s c.args.held.now c.see.new.held c.keep_front.new.held x.grown.grows y.grown.grows)
    (seen_on k s c.see.new.held c.keep_front.new.held (record { world = c.args.row.now.world; agent = c.args.a }) c.in_ok-sight.sight y.grown.grows x.seen) y.front

pub returns : goal.returns
returns g c =
    let x = c.in_ok-sight.ensures in
    let y = c.in_ok-front.ensures in
    let z = c.in_ok-comes.ensures in
    has_cycled g.M.Mind.kind (start_of (g.F.FreshWorld.agents c.args.fresh.now) (g.F.FreshWorld.start c.args.fresh.now) (g.F.Fresh.first c.args.fresh.now)) c.args.held.now c.see.new.held c.keep_front.new.held c.think_on.new.held c.args.row.now.world c.args.a c.args.seat
    c.in_ok-sight.sight c.in_ok-front.front c.in_ok-comes.comes x.grown y.grown z.grown x.seen y.front z.comes
