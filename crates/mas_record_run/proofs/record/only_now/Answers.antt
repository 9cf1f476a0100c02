use Rattle.mas_record_run.proofs.record.only_now.Goals as goal

pub returns : goal.returns
returns g c = g.met.D.Disk.only_now c.args.disk.now
