use Rattle.mas_explore_minds.specs.declared.heard.Heard.TheVariants.{Given}
use Rattle.mas_explore_minds.proofs.Fitting.{is_there, has_thought}
use Rattle.mas_explore_minds.proofs.minds.thought_of.Goals as goal

pub mind_of-requires-clause-there : goal.mind_of-requires-clause-there
mind_of-requires-clause-there g c =
    is_there g.M.Mind.kind (g.F.Fresh.first c.args.fresh.now) c.args.minds.now c.args.cycle.mind (Given c.args.cycle.sight c.args.cycle.front) c.requires.fits c.requires.may

pub returns : goal.returns
returns g c =
    has_thought g.M.Mind.kind (g.F.Fresh.first c.args.fresh.now) c.args.minds.now c.args.cycle c.in_ok-mind.mind c.make_cycle.new.mind c.in_ok-thought.thought c.has_message-message.result c.is_nothing-nothing.result
    c.requires.may c.in_ok-mind.ensures c.in_ok-thought.ensures.made c.in_ok-thought.ensures.lawful c.has_message-message.ensures c.is_nothing-nothing.ensures
