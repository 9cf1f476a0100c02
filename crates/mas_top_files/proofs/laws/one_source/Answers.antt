use Rattle.mas_top_files.proofs.Single.{one_source}
use Rattle.mas_top_files.proofs.laws.one_source.Goals as goal

pub returns : goal.returns
returns c = one_source
