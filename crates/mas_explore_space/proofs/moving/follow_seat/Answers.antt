use Rattle.std.proofs.Common.{Option, sym, subst}
use Rattle.mas_explore_space.specs.Held.{start_of}
use Rattle.mas_explore_space.specs.declared.row.Row.{Row}
use Rattle.mas_explore_space.specs.Rows.{HasMoved}
use Rattle.mas_explore_space.proofs.Cycles.{mover_place, mover_spent, mover_left}
use Rattle.mas_explore_space.proofs.moving.follow_seat.Goals as goal

pub left_row-requires : goal.left_row-requires
left_row-requires g c =
    mover_place g.M.Mind.kind (start_of (g.F.FreshWorld.agents c.args.fresh.now) (g.F.FreshWorld.start c.args.fresh.now) (g.F.Fresh.first c.args.fresh.now)) c.args.held.now c.args.state c.args.row c.args.a c.args.seat c.requires.mover

pub returns-in-Spent : goal.returns-in-Spent
returns-in-Spent g c =
    let k = g.M.Mind.kind in
    let s = start_of (g.F.FreshWorld.agents c.args.fresh.now) (g.F.FreshWorld.start c.args.fresh.now) (g.F.Fresh.first c.args.fresh.now) in
    let P = λ (o : Option Row). HasMoved k s c.args.held.now c.args.held.now c.args.state c.args.row c.args.a o in
    subst P (sym c.left_row.ensures) (mover_spent k s c.args.held.now c.args.state c.args.row c.args.a c.args.seat c.requires.mover c.in-Spent.is)

pub returns-in-Left : goal.returns-in-Left
returns-in-Left g c =
    mover_left g.M.Mind.kind (start_of (g.F.FreshWorld.agents c.args.fresh.now) (g.F.FreshWorld.start c.args.fresh.now) (g.F.Fresh.first c.args.fresh.now)) c.args.held.now c.args.state c.args.row c.args.a c.args.seat c.requires.mover c.in-Left.field-0 c.in-Left.is
