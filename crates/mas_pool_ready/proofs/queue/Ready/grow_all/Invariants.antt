use Rattle.std.proofs.Common.{◌≡◌, []}
use Rattle.crossbeam_queue.specs.Passes.{view, IsPassOf}
use Rattle.mas_pool_ready.proofs.queue.Ready.grow_all.Given as goal

abbrev pub invariant-loop-item : goal.invariant-loop-item
invariant-loop-item g l = IsPassOf l.self.line l.ticket × ((view l.ticket).first ≡ l.yielded) × ((view l.ticket).parts ≡ 64) × ((view l.ticket).holds ≡ [])
