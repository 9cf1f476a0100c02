use Rattle.mas_top.proofs.Repeats.{can_renew}
use Rattle.mas_top.proofs.laws.can_renew.Goals as goal

pub returns : goal.returns
returns c = can_renew
