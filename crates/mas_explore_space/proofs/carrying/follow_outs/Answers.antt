use Rattle.std.proofs.Common.{◌+◌, ◌-◌, sym, subst}
use Rattle.mas_explore_space.specs.Held.{start_of}
use Rattle.mas_explore_space.specs.declared.row.Row.{Row}
use Rattle.mas_explore_space.specs.Rows.{Stands, HasPut}
use Rattle.mas_explore_space.proofs.Cycles.{mover_place}
use Rattle.mas_explore_space.proofs.Doings.{has_outs, may_act, acted_stands, outs_sent, outs_move}
use Rattle.mas_explore_space.proofs.carrying.follow_outs.Goals as goal

pub outs_of-requires : goal.outs_of-requires
outs_of-requires g c =
    has_outs g.M.Mind.kind (start_of (g.F.FreshWorld.agents c.args.fresh.now) (g.F.FreshWorld.start c.args.fresh.now) (g.F.Fresh.first c.args.fresh.now)) c.args.held.now c.args.state c.args.row c.args.a c.args.seat c.requires.mover c.args.thought c.requires.busy g.met.M.Mind.awaits_no_more g.met.M.Mind.is_told

pub do_action-requires-clause-may : goal.do_action-requires-clause-may
do_action-requires-clause-may g c =
    may_act g.M.Mind.kind (start_of (g.F.FreshWorld.agents c.args.fresh.now) (g.F.FreshWorld.start c.args.fresh.now) (g.F.Fresh.first c.args.fresh.now)) c.args.held.now c.args.state c.args.row c.args.a c.args.seat c.requires.mover c.args.thought c.requires.busy g.met.M.Mind.awaits_no_more g.met.M.Mind.is_told
    c.in_ok-outs.outs c.in_ok-outs.ensures

pub acted_row-row-requires : goal.acted_row-row-requires
acted_row-row-requires g c = mover_place g.M.Mind.kind (start_of (g.F.FreshWorld.agents c.args.fresh.now) (g.F.FreshWorld.start c.args.fresh.now) (g.F.Fresh.first c.args.fresh.now)) c.args.held.now c.args.state c.args.row c.args.a c.args.seat c.requires.mover

pub put_all-requires-clause-stands : goal.put_all-requires-clause-stands
put_all-requires-clause-stands g c =
    let k = g.M.Mind.kind in
    let s = start_of (g.F.FreshWorld.agents c.args.fresh.now) (g.F.FreshWorld.start c.args.fresh.now) (g.F.Fresh.first c.args.fresh.now) in
    let P = λ (r : Row). Stands k s c.do_action.new.held (c.args.state + 1) r in
    subst P (sym c.acted_row-row.ensures)
    (acted_stands k s c.args.held.now c.args.state c.args.row c.args.a c.args.seat c.requires.mover c.args.thought c.requires.busy g.met.M.Mind.awaits_no_more g.met.M.Mind.is_told
    c.in_ok-outs.outs c.in_ok-outs.ensures c.do_action.new.held c.in_ok-both.both.world c.in_ok-both.both.mind c.in_ok-both.ensures)

pub put_all-requires-clause-sent : goal.put_all-requires-clause-sent
put_all-requires-clause-sent g c =
    outs_sent g.M.Mind.kind (start_of (g.F.FreshWorld.agents c.args.fresh.now) (g.F.FreshWorld.start c.args.fresh.now) (g.F.Fresh.first c.args.fresh.now)) c.args.held.now c.args.state c.args.row c.args.a c.args.seat c.requires.mover c.args.thought c.requires.busy g.met.M.Mind.awaits_no_more g.met.M.Mind.is_told
    c.in_ok-outs.outs c.in_ok-outs.ensures

pub returns : goal.returns
returns g c =
    let k = g.M.Mind.kind in
    let s = start_of (g.F.FreshWorld.agents c.args.fresh.now) (g.F.FreshWorld.start c.args.fresh.now) (g.F.Fresh.first c.args.fresh.now) in
    let P = λ (r : Row). HasPut k s c.do_action.new.held c.put_all.new.held (c.args.state + 1) r c.in_ok-next.next c.in_ok-outs.outs.messages in
    outs_move k s c.args.held.now c.args.state c.args.row c.args.a c.args.seat c.requires.mover c.args.thought c.requires.busy g.met.M.Mind.awaits_no_more g.met.M.Mind.is_told
    c.in_ok-outs.outs c.in_ok-outs.ensures c.do_action.new.held c.in_ok-both.both.world c.in_ok-both.both.mind c.in_ok-both.ensures c.put_all.new.held c.in_ok-next.next
    (subst P c.acted_row-row.ensures c.in_ok-next.ensures)
