use Rattle.std.proofs.Common.{◌≡◌, take}
use Rattle.mas_explore_space.proofs.row.copy_seats.Given as goal

abbrev pub invariant-loop-seat : goal.invariant-loop-seat
invariant-loop-seat l = l.r ≡ take l.seat-index l.seats
