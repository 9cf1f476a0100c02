use Rattle.std.proofs.Common.{◌≡◌}
use Rattle.mas_pool.proofs.dealing.packed.Given as goal

abbrev pub invariant-loop-mind : goal.invariant-loop-mind
invariant-loop-mind g l = l.parcels ≡ l.yielded
