use Rattle.mas_core.specs.Platform.{opening_platform}
use Rattle.mas_top.proofs.Demos.{run_told}
use Rattle.mas_top.proofs.demo.lines_of_run.Goals as goal

pub returns-in-Ok : goal.returns-in-Ok
returns-in-Ok g c = run_told g.M.Mind.kind (opening_platform c.args.opened.board.state c.args.opened.minds) c.args.workers
    c.in_ok-done.done.board c.in_ok-done.done.minds c.args.agents c.in-Ok.text
    c.in_ok-done.ensures.ran c.in_ok-done.ensures.alone c.in-Ok.ensures
