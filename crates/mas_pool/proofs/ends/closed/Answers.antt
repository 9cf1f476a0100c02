use Rattle.std.proofs.Common.{List, sym, subst, rules}
use Rattle.mas_core.specs.Platform.{opening_platform}
use Rattle.mas_core.specs.Replay.{RanAlong}
use Rattle.mas_baton.specs.declared.seat.Seat.{Seat}
use Rattle.mas_baton.specs.Seats.{AllBack, Closed}
use Rattle.mas_pool.proofs.Whole.{seats_back, has_run}
use Rattle.mas_pool.proofs.ends.closed.Goals as goal

pub close-board-requires : goal.close-board-requires
close-board-requires g c = (
  search rules,
  subst (AllBack c.args.baton) (sym c.in_ok-seats.ensures.seats) (seats_back g.M.Mind.kind c.args.baton c.args.goings c.requires),
)

pub returns : goal.returns
returns g c =
    let after = c.close-board.result in
    let closed = subst (λ (l : List (Seat g.row.A.Denot)). Closed l after) c.in_ok-seats.ensures.seats c.close-board.ensures in
    λ back. subst (λ (l : List g.row.M.Denot). RanAlong g.M.Mind.kind (opening_platform back.board.state back.minds) after.schedule after l) (sym c.in_ok-seats.ensures.minds)
    (has_run g.M.Mind.kind c.args.baton c.args.goings after closed (sym c.if-not-have_left.ensures) back)
