use Rattle.mas_explore_minds.proofs.Fitting.{ground_input, sent_input}
use Rattle.mas_explore_minds.proofs.minds.make_cycle.Goals as goal

pub think-requires-clause-ground : goal.think-requires-clause-ground
think-requires-clause-ground g c =
    ground_input g.M.Mind.kind c.args.minds.now.sights c.args.minds.now.boxes c.args.mind.now c.args.sight c.args.front c.in_ok-input.input c.requires c.in_ok-input.ensures

pub think-requires-clause-sent : goal.think-requires-clause-sent
think-requires-clause-sent g c =
    sent_input g.M.Mind.kind c.args.minds.now.sights c.args.minds.now.boxes c.args.mind.now c.args.sight c.args.front c.in_ok-input.input c.requires c.in_ok-input.ensures
