use Rattle.mas_world.proofs.Unchanged.{if_ok, unchanged}
use Rattle.mas_world.proofs.world.World.act.Goals as goal

pub returns-clause-failed : goal.returns-clause-failed
returns-clause-failed g c =
    if_ok c.decide.result (λ f e h. unchanged c.args.self.now c.decide.new.self c.args.agent.now c.args.action.now f e h) c.decide.ensures.acted
