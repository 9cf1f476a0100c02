use Rattle.mas_top_laws.proofs.Openings.{sources_never}
use Rattle.mas_top_laws.proofs.runs.sources_never.Goals as goal

pub returns : goal.returns
returns c = sources_never
