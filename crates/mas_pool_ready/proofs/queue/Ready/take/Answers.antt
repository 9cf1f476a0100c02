use Rattle.mas_pool_ready.proofs.Moves.{takes_open}
use Rattle.mas_pool_ready.proofs.queue.Ready.take.Goals as goal

pub pop_as-requires-clause-rule : goal.pop_as-requires-clause-rule
pop_as-requires-clause-rule g c = takes_open g.T.Numbered.number_of g.T.Numbered.became _ _ c.requires.pass.part
