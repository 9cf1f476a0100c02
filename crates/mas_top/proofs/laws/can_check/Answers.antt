use Rattle.mas_top.proofs.Repeats.{can_check}
use Rattle.mas_top.proofs.laws.can_check.Goals as goal

pub returns : goal.returns
returns c = can_check c.runs_end.ensures
