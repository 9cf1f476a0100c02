use Rattle.std.proofs.Common.{◌≡◌}
use Rattle.mas_pool_ready.specs.Passes.{IsOf, known}
use Rattle.mas_pool_ready.proofs.queue.Ready.put.Given as goal

abbrev pub invariant-loop : goal.invariant-loop
invariant-loop g l = IsOf l.self l.pass × (known l.pass ≡ known l.initial.pass) × (l.item ≡ l.initial.item) × (l.pass.kept ≡ l.initial.pass.kept)
