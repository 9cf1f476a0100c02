use Rattle.mas_sites_rounds.proofs.Awake.{no_site_quiet}
use Rattle.mas_sites_rounds.proofs.laws.no_site_ends_quiet.Goals as goal

pub returns : goal.returns
returns g c = no_site_quiet g.M.Mind.kind
