use Rattle.std.proofs.Common.{◌≡◌, replicate, None}
use Rattle.mas_pool_ready.proofs.Orders.{placed}
use Rattle.mas_pool_ready.proofs.ends.shelved.Given as goal

abbrev pub invariant-loop-item : goal.invariant-loop-item
invariant-loop-item g l = l.shelf ≡ placed g.T.Numbered.number_of (replicate l.count None) l.yielded
