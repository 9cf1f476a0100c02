use denote.Param.Send.{sendable, param_send, arg_send}
use denote.Param.SendFields.{as_row_sync, declared_sync}
use Rattle.std.proofs.Crossing.{crosses}
use Rattle.mas_pool_ready.proofs.queue.Pass.TheSendSync.{the_send as pass_send}
use Rattle.mas_pool_ready.proofs.queue.Ready.TheSendSync.{the_sync as ready_sync}
use Rattle.mas_baton.proofs.Sends.{baton_sync}
use Rattle.mas_pool_task.proofs.Sends.{going_send}
use Rattle.mas_pool.proofs.shifts.all_work.Goals as goal

-- the facts on agents are stated by hand, since a search that goes down to the board's fields runs out of steps
pub for_each_mut-requires-send-T : goal.for_each_mut-requires-send-T
for_each_mut-requires-send-T g c κs within =
    let pass = pass_send _ (going_send _ _ g.A.Artifact c.type_bounds.send-M c.type_bounds.send-A) in
    search (param_send, arg_send) depth 6

pub for_each_mut-requires-sync-F : goal.for_each_mut-requires-sync-F
for_each_mut-requires-sync-F g c κs within =
    let going = going_send _ _ g.A.Artifact c.type_bounds.send-M c.type_bounds.send-A in
    let baton = baton_sync _ g.A.Artifact c.type_bounds.send-A in
    let runtime = c.type_bounds.sync-R in
    let gate = c.type_bounds.sync-G in
    search (sendable, crosses, declared_sync, as_row_sync, ready_sync) depth 24
