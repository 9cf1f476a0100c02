-- An agent on its way may go to another thread where its mind and the artifacts of the world may.
use denote.Param.Send.{IsSend, sendable}
use denote.Param.SendFields.{as_row_send, declared_send}
use denote.RattleType.{RattleType}
use Rattle.mas_world.specs.declared.artifact.Artifact.{Ghosts}
use Rattle.mas_baton.proofs.Sends.{seat_send}
use Rattle.mas_baton.proofs.parcel.Parcel.TheSendSync.{the_send as parcel_send}
use Rattle.mas_pool_task.specs.contracts.going.Going as going

pub going_send : (M A : RattleType) (g : Ghosts A.Denot) → IsSend M → IsSend A → IsSend (going.the_row M A g)
going_send M A g m s = let t = seat_send A g s in search (sendable, declared_send, as_row_send, parcel_send) depth 16 fits 4000
