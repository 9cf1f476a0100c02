use Rattle.mas_top_sites.proofs.Reported.{sites_have_reports}
use Rattle.mas_top_sites.proofs.laws.sites_have_reports.Goals as goal

pub returns : goal.returns
returns g c = sites_have_reports g.M.Mind.kind
