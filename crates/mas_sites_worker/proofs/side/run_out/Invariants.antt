use Rattle.mas_sites_worker.proofs.Rounds.{RunsOn}
use Rattle.mas_sites_worker.proofs.side.run_out.Given as goal

abbrev pub invariant-loop-cycle : goal.invariant-loop-cycle
invariant-loop-cycle g l = RunsOn g.M.Mind.kind l.fn.stage.platform.board.cycles l.cycle l.fn.ferry l.ferry l.fn.stage l.stage
