use Rattle.mas_top_laws.proofs.Yes.{ok_means_never}
use Rattle.mas_top_laws.proofs.projects.ok_means_never.Goals as goal

pub returns : goal.returns
returns c = ok_means_never
