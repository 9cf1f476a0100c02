use Rattle.std.proofs.Common.{◌≡◌, ◌-◌, slice_get, Some, sym, ◌∙◌, ap, subst}
use Rattle.std.proofs.lemmas.Option.{none-some, slice_get_past}
use Rattle.std.specs.Option.{option_copied}
use Rattle.mas_explore_space.specs.Held.{start_of}
use Rattle.mas_explore_space.specs.declared.row.Row.{Row}
use Rattle.mas_explore_space.specs.Rows.{HasPutOne}
use Rattle.mas_explore_space.proofs.Doings.{put_one, seat_there, box_there}
use Rattle.mas_explore_space.proofs.carrying.put_one.Goals as goal

pub unreachable-requires : goal.unreachable-requires
unreachable-requires g c =
    let x = seat_there g.M.Mind.kind (start_of (g.F.FreshWorld.agents c.args.fresh.now) (g.F.FreshWorld.start c.args.fresh.now) (g.F.Fresh.first c.args.fresh.now)) c.args.held.now c.args.most c.args.row c.args.m.to c.requires.stands c.requires.sent.receiver in
    none-some x.0 (sym (ap option_copied c.in_default.is) ∙ c.at.ensures ∙ x.1)

pub keep_with-requires-clause-there : goal.keep_with-requires-clause-there
keep_with-requires-clause-there g c =
    box_there g.M.Mind.kind (start_of (g.F.FreshWorld.agents c.args.fresh.now) (g.F.FreshWorld.start c.args.fresh.now) (g.F.Fresh.first c.args.fresh.now)) c.args.held.now c.args.most c.args.row (c.args.m.to - 1) c.in-Some.seat.now c.requires.stands (sym c.in-Some.ensures)

pub returns : goal.returns
returns g c =
    let k = g.M.Mind.kind in
    let s = start_of (g.F.FreshWorld.agents c.args.fresh.now) (g.F.FreshWorld.start c.args.fresh.now) (g.F.Fresh.first c.args.fresh.now) in
    let P = λ (r : Row). HasPutOne k s c.args.held.now c.keep_with.new.held c.args.most c.args.row r c.args.m in
    subst P (sym c.with_seat.ensures)
    (put_one k s c.args.held.now c.keep_with.new.held c.args.most c.args.a c.args.row c.args.m c.in-Some.seat.now c.in_ok-mail.mail c.requires.agent c.requires.sent
    (sym c.in-Some.ensures) c.in_ok-mail.ensures.grown c.in_ok-mail.ensures.more)
