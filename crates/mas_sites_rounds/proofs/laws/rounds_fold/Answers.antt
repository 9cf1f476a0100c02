use Rattle.mas_sites_rounds.proofs.Folds.{goes_fold}
use Rattle.mas_sites_rounds.proofs.laws.rounds_fold.Goals as goal

pub returns : goal.returns
returns g c = goes_fold g.M.Mind.kind
