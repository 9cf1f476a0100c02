use Rattle.mas_explore_runs.proofs.Starts.{one_more}
use Rattle.mas_explore_runs.proofs.opening.minds_at_start.Goals as goal

pub loop-i-preserved : goal.loop-i-preserved
loop-i-preserved g c =
    one_more (g.O.Origin.start c.args.origin.now).minds c.loop-i.i c.in_ok-mind.mind c.loop-i.minds c.push.new.self c.in_ok-mind.ensures c.loop-i.invariant c.in_ok-push.ensures.ok
