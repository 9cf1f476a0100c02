use Rattle.std.proofs.Common.{Option, sym, subst}
use Rattle.mas_explore_space.specs.Held.{start_of}
use Rattle.mas_explore_space.specs.declared.row.Row.{Row}
use Rattle.mas_explore_space.specs.Rows.{HasMoved}
use Rattle.mas_explore_space.proofs.Cycles.{mover_place, mover_stops}
use Rattle.mas_explore_space.proofs.moving.follow_idle.Goals as goal

pub left_row-requires : goal.left_row-requires
left_row-requires g c =
    mover_place g.M.Mind.kind (start_of (g.F.FreshWorld.agents c.args.fresh.now) (g.F.FreshWorld.start c.args.fresh.now) (g.F.Fresh.first c.args.fresh.now)) c.args.held.now c.args.state c.args.row c.args.a c.args.seat c.requires.mover

pub returns-then-row : goal.returns-then-row
returns-then-row g c =
    let k = g.M.Mind.kind in
    let s = start_of (g.F.FreshWorld.agents c.args.fresh.now) (g.F.FreshWorld.start c.args.fresh.now) (g.F.Fresh.first c.args.fresh.now) in
    let P = λ (o : Option Row). HasMoved k s c.args.held.now c.args.held.now c.args.state c.args.row c.args.a o in
    subst P (sym c.left_row.ensures)
    (mover_stops k s c.args.held.now c.args.state c.args.row c.args.a c.args.seat c.requires.mover c.requires.idle c.if-row.true)
