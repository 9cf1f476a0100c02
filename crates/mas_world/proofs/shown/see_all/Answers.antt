use Rattle.mas_world.specs.Seen.{shown}
use Rattle.mas_world.proofs.Sights.{one_more_seen}
use Rattle.mas_world.proofs.shown.see_all.Goals as goal

pub loop-l-preserved : goal.loop-l-preserved
loop-l-preserved c =
    one_more_seen (shown c.args.hidden.now c.args.agent.now) c.args.ls.now c.args.seen.now c.loop-l.seen c.see.new.seen c.loop-l.l-index c.l-item.result
    c.loop-l-test.true c.l-item.is c.loop-l.invariant c.in-Ok.ensures.ok
