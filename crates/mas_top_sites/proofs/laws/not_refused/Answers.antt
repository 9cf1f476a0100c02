use Rattle.mas_top_sites.proofs.Refusals.{none_refused}
use Rattle.mas_top_sites.proofs.laws.not_refused.Goals as goal

pub returns : goal.returns
returns c = none_refused
