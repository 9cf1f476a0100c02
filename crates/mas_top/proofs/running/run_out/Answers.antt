use Rattle.mas_core.specs.Platform.{opening_platform}
use Rattle.mas_top.proofs.Runs.{pool_report}
use Rattle.mas_top.proofs.running.run_out.Goals as goal

pub returns-in-Ok : goal.returns-in-Ok
returns-in-Ok g c = pool_report g.M.Mind.kind c.args.o.now (opening_platform c.args.opened.board.state c.args.opened.minds) c.args.workers
    c.in_ok-done.done.board c.in_ok-done.done.minds c.in-Ok.out.spent c.in-Ok.out.text
    c.holds.ensures.sound c.in_ok-done.ensures.ran c.in_ok-done.ensures.alone c.in-Ok.ensures.spent c.in-Ok.ensures.text c.in-Ok.ensures.printed
