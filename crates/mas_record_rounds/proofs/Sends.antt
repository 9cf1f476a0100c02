-- A share may go to another thread, and a recorder may be shared by threads, where minds, artifacts and the disk may go to another.
use denote.Param.Send.{IsSend, IsSync, sendable}
use denote.Param.SendFields.{as_row_send, as_row_sync, declared_send, declared_sync, variants_send}
use denote.RattleType.{RattleType}
use Rattle.std.proofs.Crossing.{crosses}
use Rattle.asl_term.proofs.sequence.Seq.TheSendSync.{the_send as seq_send}
use Rattle.asl_term.proofs.syntax.LiteralOf.TheSendSync as literal
use Rattle.asl_term.proofs.Sends.{term_field_send, term_send}
use Rattle.atomic_table.proofs.shared.Seat.TheSendSync.{the_send as pass_send}
use Rattle.crossbeam_queue.proofs.array_queue.Slotted.TheSendSync.{the_sync as line_sync}
use Rattle.mas_mind.proofs.mind.Verb.TheSendSync.{the_field_send as verb_send}
use Rattle.mas_mind.specs.contracts.mind.Message as message
use Rattle.mas_mind.specs.contracts.mind.Outs as outs
use Rattle.mas_mind.specs.contracts.mind.Thought as thought
use Rattle.mas_world.specs.declared.artifact.Artifact.{Ghosts}
use Rattle.mas_record_disk.specs.declared.disk.Disk as disk
use Rattle.mas_board.proofs.Sends.{board_send}
use Rattle.mas_record_disk.proofs.disk.DiskFail.TheSendSync.{the_field_send as fail_send}
use Rattle.mas_record_journal.specs.contracts.journal.Journal as journal
use Rattle.mas_record.proofs.deck.DeckFault.TheSendSync.{the_field_send as fault_send}
use Rattle.mas_record.specs.contracts.deck.Deck as deck
use Rattle.mas_record.specs.contracts.recorder.Recorder as recorder
use Rattle.mas_record.specs.contracts.ticket.Ticket as ticket
use Rattle.mas_record_rounds.specs.contracts.sharer.Sharer as sharer
use Rattle.mas_record_rounds.specs.contracts.share.Share as share

message_send : IsSend message.the_row
message_send = search (sendable, term_field_send, verb_send) depth 20

outs_send : IsSend outs.the_row
outs_send = search (sendable, seq_send, literal.the_field_send, literal.the_send, term_send, message_send) depth 20

thought_send : IsSend thought.the_row
thought_send = search (sendable, variants_send, outs_send) depth 20

journal_send : (D : RattleType) → IsSend D → IsSend (journal.the_row D)
journal_send D s = search (sendable, declared_send, as_row_send, seq_send, fail_send) depth 14

module _ (A D : RattleType) (g : Ghosts A.Denot) where
  deck_send : IsSend A → IsSend D → IsSend (deck.the_row A D g)
  deck_send a d = let b = board_send A g a in let j = journal_send D d in search (sendable, declared_send) depth 14

  ticket_send : IsSend A → IsSend D → IsSend (ticket.the_row A D g)
  ticket_send a d = let b = deck_send a d in search (sendable, declared_send, as_row_send, pass_send) depth 14

  pub recorder_sync : (h : disk.Ghosts D.Denot) → IsSend A → IsSend D → IsSync (recorder.the_row A D g h)
  recorder_sync h a d = let b = deck_send a d in search (sendable, crosses, declared_sync, as_row_sync, line_sync) depth 16

module _ (M A D : RattleType) (g : Ghosts A.Denot) where
  sharer_send : IsSend M → IsSend A → IsSend D → IsSend (sharer.the_row M A D g)
  sharer_send m a d = let t = ticket_send A D g a d in let u = thought_send in search (sendable, declared_send, as_row_send) depth 14

  pub share_send : IsSend M → IsSend A → IsSend D → IsSend (share.the_row M A D g)
  share_send m a d = let s = sharer_send m a d in search (sendable, declared_send, as_row_send, seq_send, fault_send) depth 14
