-- A `Pings` may go to another thread, as a text and a segment may.
use denote.Param.Send.{sendable}
use denote.Param.Sent.{Sends}
use Rattle.asl_term.proofs.sequence.Seq.TheSendSync.{the_send as seq_send}
use Rattle.mas_world.proofs.Sends.{own_segment_send}
use Rattle.test_runs.proofs.objects.told.OwnLists.{part-1-1}

pub sends-part-1-1 : Sends part-1-1
sends-part-1-1 = search (sendable, seq_send, own_segment_send) depth 12
