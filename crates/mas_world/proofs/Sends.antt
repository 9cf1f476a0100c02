-- An act, a segment and a world may go to another thread, where the artifacts of the world may.
use denote.Param.Send.{IsSend, sendable}
use denote.RattleType.{RattleType}
use Rattle.std.proofs.Crossing.{crosses}
use Rattle.asl_term.proofs.names.Names.TheSendSync.{the_send as names_send}
use Rattle.asl_term.proofs.sequence.Seq.TheSendSync.{the_send as seq_send}
use Rattle.asl_term.proofs.syntax.LiteralOf.TheSendSync as literal
use Rattle.asl_term.proofs.Sends.{term_field_send, term_send, expr_send}
use Rattle.asl_term.specs.contracts.names.Names as names
use Rattle.mas_world.specs.declared.artifact.Artifact.{Ghosts}
use Rattle.mas_world.specs.contracts.acts.Act as act
use Rattle.mas_world.specs.contracts.artifact.HeldArtifact as kept
use Rattle.mas_world.specs.contracts.segment.Segment as segment
use Rattle.mas_world.specs.contracts.segment.OwnSegment as own
use Rattle.mas_world.specs.contracts.world.Artifacts as artifacts
use Rattle.mas_world.specs.contracts.world.World as world

pub act_send : IsSend act.the_row
act_send = search (sendable, seq_send, literal.the_field_send, literal.the_send, term_field_send, term_send, expr_send, names_send) depth 12

pub segment_send : IsSend segment.the_row
segment_send = search (sendable, seq_send, literal.the_send, term_send, act_send) depth 12

pub own_segment_send : IsSend own.the_row
own_segment_send = search (sendable, segment_send) depth 12

module _ (A : RattleType) (g : Ghosts A.Denot) where
  kept_send : IsSend A → IsSend (kept.the_row A g)
  kept_send s = search sendable depth 12

  artifacts_send : IsSend A → IsSend (artifacts.the_row A g)
  artifacts_send s = search (sendable, crosses, kept_send) depth 12

  world_of : IsSend segment.the_row → IsSend names.the_row → IsSend (artifacts.the_row A g) → IsSend (world.the_row A g)
  world_of s n a = search sendable depth 12

  pub world_send : IsSend A → IsSend (world.the_row A g)
  world_send s = world_of segment_send names_send (artifacts_send s)
