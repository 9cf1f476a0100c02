use Rattle.mas_record_journal.proofs.Blocks.{recovered-file}
use Rattle.mas_record_journal.proofs.Short.{tells_less}
use Rattle.mas_record_journal.proofs.laws.tells_turns.Goals as goal

pub returns-clause-written : goal.returns-clause-written
returns-clause-written c = recovered-file

pub returns-clause-cut : goal.returns-clause-cut
returns-clause-cut c = tells_less
