use Rattle.mas_record_run.proofs.run.run_on.Given as goal

abbrev pub ghosts-run_watched : goal.ghosts-run_watched
ghosts-run_watched g a = record { past = g.D.Disk.state a.journal.disk }
