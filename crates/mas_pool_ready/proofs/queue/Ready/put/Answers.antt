use Rattle.mas_pool_ready.proofs.Moves.{puts_again}
use Rattle.mas_pool_ready.proofs.queue.Ready.put.Goals as goal

pub try_push_as-requires-clause-rule : goal.try_push_as-requires-clause-rule
try_push_as-requires-clause-rule g c =
    let i = c.loop.invariant in puts_again g.T.Numbered.number_of g.T.Numbered.became _ _ _ _ _ _ i.1 i.2 c.requires.pass.part c.requires.held c.requires.came
