use Rattle.mas_top.proofs.Drawn.{file_not}
use Rattle.mas_top.proofs.laws.not_refused.Goals as goal

pub returns : goal.returns
returns c = file_not
