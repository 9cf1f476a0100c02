use Rattle.mas_core.specs.Platform.{opening_platform}
use Rattle.mas_top.proofs.Runs.{replay_report}
use Rattle.mas_top.proofs.running.run_along.Goals as goal

pub returns-in-Ok-clause-ok : goal.returns-in-Ok-clause-ok
returns-in-Ok-clause-ok g c = replay_report g.M.Mind.kind c.args.o.now (opening_platform c.args.opened.board.state c.args.opened.minds)
    c.args.names.now c.in_ok-done.done.board c.in_ok-done.done.minds c.in-Ok.out.spent c.in-Ok.out.text
    c.holds.ensures.sound c.in_ok-done.ensures.ok c.in-Ok.ensures.spent c.in-Ok.ensures.text c.in-Ok.ensures.printed
