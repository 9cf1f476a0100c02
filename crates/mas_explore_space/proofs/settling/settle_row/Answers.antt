use Rattle.std.proofs.Common.{◌-◌, sym, ap, ◌∙◌}
use Rattle.std.proofs.lemmas.Option.{none-some, slice_get_within}
use Rattle.std.specs.Option.{option_copied}
use Rattle.mas_explore_space.specs.Held.{start_of}
use Rattle.mas_explore_space.proofs.Doings.{seat_there}
use Rattle.mas_explore_space.proofs.Settles.{settled_row}
use Rattle.mas_explore_space.proofs.settling.settle_row.Goals as goal

pub unreachable-requires : goal.unreachable-requires
unreachable-requires g c =
    let x = seat_there g.M.Mind.kind (start_of (g.F.FreshWorld.agents c.args.fresh.now) (g.F.FreshWorld.start c.args.fresh.now) (g.F.Fresh.first c.args.fresh.now)) c.args.held.now c.args.most c.args.row c.args.a c.requires.stands c.requires.agent in
    none-some x.0 (sym (ap option_copied c.in_default.is) ∙ c.at.ensures ∙ x.1)

pub settle_mind-requires-clause-mover : goal.settle_mind-requires-clause-mover
settle_mind-requires-clause-mover g c = record { fits = c.requires.fits; stands = c.requires.stands; agent = c.requires.agent; seat_at = sym c.in-Some.ensures }

pub with_seat-requires : goal.with_seat-requires
with_seat-requires g c = slice_get_within c.args.row.seats (c.args.a - 1) c.in-Some.seat.now (sym c.in-Some.ensures)

pub returns-clause-like : goal.returns-clause-like
returns-clause-like g c =
    settled_row g.M.Mind.kind c.args.view (start_of (g.F.FreshWorld.agents c.args.fresh.now) (g.F.FreshWorld.start c.args.fresh.now) (g.F.Fresh.first c.args.fresh.now)) c.args.held.now c.args.most c.args.row c.with_seat.result c.args.a c.in-Some.seat.now c.in_ok-mind.mind
    (record { fits = c.requires.fits; stands = c.requires.stands; agent = c.requires.agent; seat_at = sym c.in-Some.ensures }) c.in_ok-mind.ensures.like c.with_seat.ensures
