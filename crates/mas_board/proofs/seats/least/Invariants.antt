use Rattle.std.proofs.Common.{◌≡◌, drop}
use Rattle.mas_board.specs.Boards.{least}
use Rattle.mas_board.proofs.seats.least.Given as goal

abbrev pub invariant-loop-seat : goal.invariant-loop-seat
invariant-loop-seat l = least l.lowest (drop l.seat-index l.places) ≡ least l.own l.places
