use Rattle.mas_record.proofs.recorder.counts_now.Goals as goal

pub returns : goal.returns
returns g c = g.met.D.Disk.counts_now c.args.journal.now.disk
