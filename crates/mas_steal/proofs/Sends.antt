-- A journey may go to another thread where its mind and the artifacts of the world may.
use denote.Param.Send.{IsSend, sendable}
use denote.Param.SendFields.{as_row_send, declared_send}
use denote.RattleType.{RattleType}
use Rattle.mas_world.specs.declared.artifact.Artifact.{Ghosts}
use Rattle.mas_pool_task.proofs.Sends.{going_send}
use Rattle.mas_steal.specs.contracts.journey.Journey as journey

pub journey_send : (M A : RattleType) (g : Ghosts A.Denot) → IsSend M → IsSend A → IsSend (journey.the_row M A g)
journey_send M A g m s = let t = going_send M A g m s in search (sendable, declared_send, as_row_send) depth 14
