use Rattle.std.proofs.Common.{◌∙◌}
use Rattle.mas_board.proofs.Surveys.{least_on}
use Rattle.mas_board.proofs.seats.least.Goals as goal

pub loop-seat-preserved : goal.loop-seat-preserved
loop-seat-preserved c = rw c.lower-lowest.ensures.value (least_on _ _ c.loop-seat.seat-index _ c.loop-seat-test.true ∙ c.loop-seat.invariant)
