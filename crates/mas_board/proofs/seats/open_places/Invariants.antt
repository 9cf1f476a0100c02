use Rattle.std.proofs.Common.{◌≡◌, replicate}
use Rattle.mas_board.specs.Boards.{no_seat}
use Rattle.mas_board.proofs.seats.open_places.Given as goal

abbrev pub invariant-loop-i : goal.invariant-loop-i
invariant-loop-i l = l.places ≡ replicate l.i no_seat
