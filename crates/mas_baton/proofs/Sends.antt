-- A seat may go to another thread, and a baton may be shared by threads, where the artifacts of the world may go to another.
use denote.Param.Send.{IsSend, IsSync, sendable}
use denote.Param.SendFields.{as_row_send, as_row_sync, declared_send, declared_sync}
use denote.RattleType.{RattleType}
use Rattle.std.proofs.Crossing.{crosses}
use Rattle.atomic_table.proofs.shared.Seat.TheSendSync.{the_send as pass_send}
use Rattle.crossbeam_queue.proofs.array_queue.Slotted.TheSendSync.{the_sync as line_sync}
use Rattle.mas_world.specs.declared.artifact.Artifact.{Ghosts}
use Rattle.mas_board.proofs.Sends.{board_send}
use Rattle.mas_baton.proofs.parcel.Parcel.TheSendSync.{the_send as parcel_send}
use Rattle.mas_baton.specs.contracts.baton.Baton as baton
use Rattle.mas_baton.specs.contracts.seat.Seat as seat

module _ (A : RattleType) (g : Ghosts A.Denot) where
  pub seat_send : IsSend A → IsSend (seat.the_row A g)
  seat_send s = let b = board_send A g s in search (sendable, declared_send, as_row_send, pass_send, parcel_send) depth 16 fits 4000

  pub baton_sync : IsSend A → IsSync (baton.the_row A g)
  baton_sync s = let b = board_send A g s in search (sendable, crosses, declared_sync, as_row_sync, line_sync, parcel_send) depth 18 fits 4000
