-- A board may go to another thread where the artifacts of its world may.
use denote.Param.Send.{IsSend, sendable, view_send}
use denote.Param.SendFields.{as_row_send, declared_send}
use denote.RattleType.{RattleType}
use denote.Plain.{UInt}
use mir.Syntax.{w64}
use Rattle.asl_term.proofs.names.Names.TheSendSync.{the_send as names_send}
use Rattle.asl_term.proofs.room.Roomy.TheSendSync.{the_send as roomy_send}
use Rattle.asl_term.proofs.sequence.Seq.TheSendSync.{the_send as seq_send}
use Rattle.asl_term.proofs.Sends.{term_field_send}
use Rattle.asl_term_queue.proofs.room.RoomyQueue.TheSendSync.{the_send as roomy_queue_send}
use Rattle.mas_mind.proofs.mind.Verb.TheSendSync.{the_field_send as verb_send}
use Rattle.mas_mind.specs.contracts.mind.Message as message
use Rattle.mas_world.proofs.Sends.{world_send}
use Rattle.mas_world.specs.declared.artifact.Artifact.{Ghosts}
use Rattle.mas_board.proofs.seats.AgentPlace.TheSendSync.{the_send as place_send}
use Rattle.mas_board.specs.contracts.board.Board as board
use Rattle.mas_board.specs.contracts.seats.AgentPlaces as seats
use Rattle.mas_board.specs.contracts.seats.AgentPlaces.TheInside as seats_inside
use Rattle.mas_board.specs.contracts.board.Board.TheInside as inside
use Rattle.mas_board.specs.contracts.post.Post as post
use Rattle.mas_board.specs.contracts.post.Post.TheInside as post_inside

message_send : IsSend message.the_row
message_send = search (sendable, term_field_send, verb_send) depth 20

pub post_send : IsSend post.the_row
post_send = view_send post_inside.the_row _ _ _ _ (declared_send post_inside.the_type (seq_send _ (roomy_queue_send _ message_send), tt))

number_send : IsSend (UInt w64)
number_send = search sendable

seats_send : IsSend seats.the_row
seats_send = view_send seats_inside.the_row _ _ _ _ (declared_send seats_inside.the_type (
  seq_send _ place_send,
  (
    search (sendable, as_row_send),
    (
      search (sendable, as_row_send),
      tt,
    ),
  ),
))

module _ (A : RattleType) (g : Ghosts A.Denot) where
  -- field by field
  inside_send : IsSend A → IsSend (inside.the_row A g)
  inside_send s = declared_send (inside.the_type A g) (
    names_send,
    (
      world_send A g s,
      (
        post_send,
        (
          search (sendable, as_row_send),
          (
            search (sendable, as_row_send),
            (
              search (sendable, as_row_send),
              (
                search (sendable, as_row_send),
                (
                  seats_send,
                  (
                    roomy_send _ number_send,
                    (
                      search (sendable, as_row_send),
                      tt,
                    ),
                  ),
                ),
              ),
            ),
          ),
        ),
      ),
    ),
  )

  pub board_send : IsSend A → IsSend (board.the_row A g)
  board_send s = view_send (inside.the_row A g) _ _ _ _ (inside_send s)
