use Rattle.std.proofs.Common.{rules}
use Rattle.mas_record_journal.proofs.Told.{tells}
use Rattle.mas_record_journal.proofs.reading.recovered.Goals as goal

pub returns-in_ok-read_turns-in-Some-clause-turns : goal.returns-in_ok-read_turns-in-Some-clause-turns
returns-in_ok-read_turns-in-Some-clause-turns c = tells c.args.bytes.now _ (search rules)
