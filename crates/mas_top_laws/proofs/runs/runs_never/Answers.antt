use Rattle.mas_top_laws.proofs.Turns.{runs_never}
use Rattle.mas_top_laws.proofs.runs.runs_never.Goals as goal

pub returns : goal.returns
returns c = runs_never
