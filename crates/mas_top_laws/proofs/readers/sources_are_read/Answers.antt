use Rattle.mas_top_laws.proofs.Clauses.{sources_are_read}
use Rattle.mas_top_laws.proofs.readers.sources_are_read.Goals as goal

pub returns : goal.returns
returns c = sources_are_read
