use denote.Param.Send.{sendable, param_send, arg_send}
use denote.Param.SendFields.{as_row_sync, declared_sync}
use Rattle.std.proofs.Crossing.{crosses}
use Rattle.mas_record_rounds.proofs.Sends.{recorder_sync, share_send}
use Rattle.mas_record_rounds.proofs.rounds.all_go.Goals as goal

-- the facts on agents are stated by hand, since a search that goes down to the board's fields runs out of steps
pub for_each_chunk_mut-requires-send-T : goal.for_each_chunk_mut-requires-send-T
for_each_chunk_mut-requires-send-T g c κs within =
    let share = share_send _ _ _ g.A.Artifact c.type_bounds.send-M c.type_bounds.send-A c.type_bounds.send-D in
    search (param_send, arg_send) depth 6

pub for_each_chunk_mut-requires-sync-F : goal.for_each_chunk_mut-requires-sync-F
for_each_chunk_mut-requires-sync-F g c κs within =
    let recorder = recorder_sync _ _ g.A.Artifact g.D.Disk c.type_bounds.send-A c.type_bounds.send-D in
    let runtime = c.type_bounds.sync-R in
    search (sendable, crosses, declared_sync, as_row_sync) depth 24
