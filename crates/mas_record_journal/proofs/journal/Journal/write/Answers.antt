use Rattle.mas_record_journal.proofs.Steps.{nothing_yet}
use Rattle.mas_record_journal.proofs.journal.Journal.write.Goals as goal

pub returns-in_err-reserve-clause-ran : goal.returns-in_err-reserve-clause-ran
returns-in_err-reserve-clause-ran g c =
    nothing_yet c.args.self.now.turns c.args.agent _ (g.met.D.Disk.only_now c.args.self.now.disk) c.requires.file
