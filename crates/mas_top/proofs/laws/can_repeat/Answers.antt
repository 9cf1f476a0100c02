use Rattle.mas_top.proofs.Repeats.{can_repeat}
use Rattle.mas_top.proofs.laws.can_repeat.Goals as goal

pub returns : goal.returns
returns c = can_repeat c.runs_end.ensures
