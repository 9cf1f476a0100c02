use Rattle.mas_sites_scripts.proofs.Folded.{turn_folds}
use Rattle.mas_sites_scripts.proofs.laws.turns_fold.Goals as goal

pub returns : goal.returns
returns g c = turn_folds g.M.Mind.kind
