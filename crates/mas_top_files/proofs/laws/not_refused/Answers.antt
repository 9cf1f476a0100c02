use Rattle.mas_top_files.proofs.Single.{not_refused}
use Rattle.mas_top_files.proofs.laws.not_refused.Goals as goal

pub returns : goal.returns
returns c = not_refused
