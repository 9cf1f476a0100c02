use Rattle.mas_top_sites.proofs.Single.{one_pair}
use Rattle.mas_top_sites.proofs.laws.one_pair.Goals as goal

pub returns : goal.returns
returns c = one_pair
