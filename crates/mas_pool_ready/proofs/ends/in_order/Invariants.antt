use Rattle.std.proofs.Common.{◌≡◌}
use Rattle.mas_pool_ready.proofs.Orders.{somes}
use Rattle.mas_pool_ready.proofs.ends.in_order.Given as goal

abbrev pub invariant-loop-place : goal.invariant-loop-place
invariant-loop-place g l = l.row ≡ somes l.yielded
