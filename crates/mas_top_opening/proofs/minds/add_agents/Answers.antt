use Rattle.mas_top_opening.proofs.Opened.{count_pushed}
use Rattle.mas_top_opening.proofs.minds.add_agents.Goals as goal

pub agents-preserved : goal.agents-preserved
agents-preserved c =
    count_pushed c.args.o.now c.args.names.now c.agents.left c.args.role.now.text c.agents.minds _ c.in_ok-mind.mind c.push.new.self
    c.len.result c.next_number-a.result c.agents.invariant c.agents-test.true c.len.ensures c.next_number-a.ensures c.in_ok-mind.ensures c.in_ok-push.ensures.ok
