use Rattle.mas_top_files.proofs.Artifacts.{known_named, known_uses}
use Rattle.mas_top_files.proofs.laws.known_there.Goals as goal

pub returns-clause-named : goal.returns-clause-named
returns-clause-named c = known_named

pub returns-clause-uses : goal.returns-clause-uses
returns-clause-uses c = known_uses
