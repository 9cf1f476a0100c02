use Rattle.std.proofs.Common.{arith}
use Rattle.mas_pool_ready.proofs.Moves.{grows_again}
use Rattle.mas_pool_ready.proofs.queue.Ready.grow.Goals as goal

pub try_push_as-requires-clause-rule : goal.try_push_as-requires-clause-rule
try_push_as-requires-clause-rule g c =
    let i = c.loop.invariant in
    grows_again g.T.Numbered.number_of g.T.Numbered.became _ _ _ _ _ _ i.1 i.2 c.requires.whole (let n = c.requires.number in omega arith) c.requires.became
