use Rattle.mas_top_laws.proofs.Openings.{linted_never}
use Rattle.mas_top_laws.proofs.runs.linted_never.Goals as goal

pub returns : goal.returns
returns c = linted_never
