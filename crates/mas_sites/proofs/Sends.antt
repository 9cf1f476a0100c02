-- A site may go to another thread where its minds and the artifacts of its world may, and so may what it comes to.
use denote.Param.Send.{IsSend, IsSync, sendable, view_send}
use denote.Param.SendFields.{as_row_send, as_row_sync, declared_send, declared_sync, variants_send}
use denote.RattleType.{RattleType}
use Rattle.std.proofs.Crossing.{crosses}
use Rattle.std.specs.contracts.option.Option as option
use Rattle.atomic_blocks.proofs.web.Seat.TheSendSync.{the_send as pass_send}
use Rattle.crossbeam_queue.proofs.seg_queue.Chained.TheSendSync.{the_sync as queue_sync}
use Rattle.asl_term.proofs.names.Names.TheSendSync.{the_send as names_send}
use Rattle.asl_term.proofs.sequence.Seq.TheSendSync.{the_send as seq_send}
use Rattle.asl_term.proofs.Sends.{term_field_send}
use Rattle.mas_mind.proofs.mind.Verb.TheSendSync.{the_field_send as verb_send}
use Rattle.mas_mind.specs.contracts.mind.Message as message
use Rattle.mas_world.specs.declared.artifact.Artifact.{Ghosts}
use Rattle.mas_board.proofs.Sends.{board_send}
use Rattle.mas_sites_stand.specs.contracts.seated.Seated as seated
use Rattle.mas_sites_stand.specs.contracts.stand.Stand as stand
use Rattle.mas_sites_stand.specs.contracts.stand.Stand.TheInside as inside
use Rattle.mas_sites_wire.specs.contracts.wire.WireEnd as end
use Rattle.mas_sites_wire.specs.contracts.wire.Wire as wire
use Rattle.mas_sites_rounds.specs.contracts.stage.Closed as closed
use Rattle.mas_sites_rounds.specs.contracts.runs.Site as site
use Rattle.mas_sites_worker.specs.contracts.side.Ran as ran

message_send : IsSend message.the_row
message_send = search (sendable, term_field_send, verb_send) depth 20

entry_send : IsSend (option.the_row message.the_row)
entry_send = search (sendable, variants_send, message_send) depth 14

pub end_send : IsSend end.the_row
end_send = search (sendable, crosses, declared_send, as_row_send, pass_send, message_send) depth 16

pub wire_sync : IsSync wire.the_row
wire_sync = search (sendable, crosses, declared_sync, as_row_sync, queue_sync, message_send) depth 16

-- field by field
pub stand_send : IsSend stand.the_row
stand_send = view_send inside.the_row _ _ _ _ (declared_send inside.the_type (
  search (sendable, as_row_send),
  (
    names_send,
    (
      search (sendable, as_row_send),
      (
        search (sendable, as_row_send, seq_send),
        (
          seq_send _ entry_send,
          (
            seq_send _ message_send,
            tt,
          ),
        ),
      ),
    ),
  ),
))

pub seated_send : (M : RattleType) → IsSend M → IsSend (seated.the_row M)
seated_send M s = let t = stand_send in search (sendable, variants_send) depth 14

module _ (M A : RattleType) (g : Ghosts A.Denot) where
  pub site_send : IsSend M → IsSend A → IsSend (site.the_row M A g)
  site_send m a = declared_send (site.the_type M A g) (board_send A g a, (seq_send _ (seated_send M m), tt))

  closed_send : IsSend M → IsSend A → IsSend (closed.the_row M A g)
  closed_send m a = declared_send (closed.the_type M A g) (board_send A g a, (seq_send _ (seated_send M m), (seq_send _ (seq_send _ entry_send), tt)))

  pub ran_send : IsSend M → IsSend A → IsSend (ran.the_row M A g)
  ran_send m a = declared_send (ran.the_type M A g) (closed_send m a, (seq_send _ end_send, tt))
