use Rattle.mas_record_journal.proofs.Steps.{all_recover}
use Rattle.mas_record_journal.proofs.journal.Journal.append.Goals as goal

pub returns-in-Ok-clause-there : goal.returns-in-Ok-clause-there
returns-in-Ok-clause-there g c = all_recover _ _ (c.in-Ok.ensures.done)
