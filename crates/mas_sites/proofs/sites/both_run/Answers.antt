use denote.Param.Send.{sendable}
use denote.Param.SendFields.{as_row_send, declared_send, variants_send}
use Rattle.std.proofs.Crossing.{crosses}
use Rattle.asl_term.proofs.sequence.Seq.TheSendSync.{the_send as seq_send}
use Rattle.mas_sites.proofs.Sends.{end_send, wire_sync, site_send, ran_send}
use Rattle.mas_sites.proofs.sites.both_run.Goals as goal

-- the facts on sites are stated by hand, since a search that goes down to the board's fields runs out of steps
pub join-one-requires-send-F : goal.join-one-requires-send-F
join-one-requires-send-F g c κs within =
    let site = site_send _ _ g.A.Artifact c.type_bounds.send-M c.type_bounds.send-A in
    let wire = wire_sync in
    let end = end_send in
    let runtime = c.type_bounds.sync-R in
    search (sendable, crosses, declared_send, as_row_send, seq_send) depth 24

pub join-one-requires-send-A : goal.join-one-requires-send-A
join-one-requires-send-A g c κs within =
    let ran = ran_send _ _ g.A.Artifact c.type_bounds.send-M c.type_bounds.send-A in
    search (sendable, crosses, variants_send, declared_send, as_row_send) depth 16
