use Rattle.mas_pool_ready.proofs.Moves.{merges}
use Rattle.mas_pool_ready.proofs.queue.Ready.join.Goals as goal

pub absorb-requires-clause-rule : goal.absorb-requires-clause-rule
absorb-requires-clause-rule g c = merges g.T.Numbered.number_of g.T.Numbered.became _ _ _ _ c.requires.pass.part
