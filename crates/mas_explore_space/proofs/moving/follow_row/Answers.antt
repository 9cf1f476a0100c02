use Rattle.std.proofs.Common.{None, sym, ap, ◌∙◌}
use Rattle.std.proofs.lemmas.Option.{none-some}
use Rattle.std.specs.Option.{option_copied}
use Rattle.mas_explore_space.specs.Held.{start_of}
use Rattle.mas_explore_space.proofs.Doings.{seat_there}
use Rattle.mas_explore_space.proofs.moving.follow_row.Goals as goal

pub unreachable-requires : goal.unreachable-requires
unreachable-requires g c =
    let x = seat_there g.M.Mind.kind (start_of (g.F.FreshWorld.agents c.args.fresh.now) (g.F.FreshWorld.start c.args.fresh.now) (g.F.Fresh.first c.args.fresh.now)) c.args.held.now c.args.state c.args.row c.args.a c.requires.stands c.requires.agent in
    none-some x.0 (sym (ap option_copied c.in_default.is) ∙ c.at.ensures ∙ x.1)

pub follow_seat-requires-clause-mover : goal.follow_seat-requires-clause-mover
follow_seat-requires-clause-mover g c = record { fits = c.requires.fits; stands = c.requires.stands; agent = c.requires.agent; seat_at = sym c.in-Some.ensures }
