use Rattle.mas_sites_scripts.proofs.Along.{feeds}
use Rattle.mas_sites_scripts.proofs.laws.scripts_may_grow.Goals as goal

pub returns : goal.returns
returns g c = feeds g.M.Mind.kind
