use Rattle.mas_record_disk.proofs.Going.{came_now}
use Rattle.mas_record_run.proofs.Answers.{leaves_before}
use Rattle.mas_record_run.proofs.run.run_on.Goals as goal

pub run_watched-requires-clause-came : goal.run_watched-requires-clause-came
run_watched-requires-clause-came g c κs within = came_now (g.D.Disk.state c.args.journal.disk)

pub returns-clause-leaves : goal.returns-clause-leaves
returns-clause-leaves g c =
    leaves_before c.args.journal.turns (g.D.Disk.state c.args.journal.disk) (g.D.Disk.state c.run_watched.result.disk) c.run_watched.ensures.came c.run_watched.ensures.leaves
