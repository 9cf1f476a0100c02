use Rattle.mas_record_run.proofs.run.only_open.Goals as goal

pub returns : goal.returns
returns g c = g.met.D.Disk.only_now c.args.journal.now.disk
