use Rattle.mas_top_laws.proofs.Yes.{yes_means_never}
use Rattle.mas_top_laws.proofs.projects.yes_means_never.Goals as goal

pub returns : goal.returns
returns c = yes_means_never
