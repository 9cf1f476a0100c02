use Rattle.mas_sites_rounds.proofs.Keeping.{both_tallied}
use Rattle.mas_sites_rounds.proofs.laws.rounds_keep_tally.Goals as goal

pub returns : goal.returns
returns g c = both_tallied g.M.Mind.kind
