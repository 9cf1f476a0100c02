use Rattle.std.proofs.Common.{◌≡◌}
use Rattle.crossbeam_queue.specs.Passes.{view, IsPassOf}
use Rattle.mas_pool_ready.proofs.queue.Ready.grow.Given as goal

abbrev pub invariant-loop : goal.invariant-loop
invariant-loop g l = IsPassOf l.self.line l.ticket × (view l.ticket ≡ view l.initial.ticket) × (l.item ≡ l.initial.item)
