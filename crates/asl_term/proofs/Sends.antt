-- Terms and expressions may go to another thread, since nothing in them is bound to one. It takes a proof by parts, as both are recursive:
-- these and what holds them have no such lemma of their own.
use denote.Param.Send.{IsSend, sendable}
use denote.RattleType.{RattleType}
use Rattle.asl_term.proofs.boxed.Boxed.TheSendSync.{the_send as boxed_send}
use Rattle.asl_term.proofs.sequence.Seq.TheSendSync.{the_send as seq_send}
use Rattle.asl_term.proofs.syntax.ArithOf.TheSendSync as arith
use Rattle.asl_term.proofs.syntax.Expr.TheLaws.TheKnot.{send-Expr}
use Rattle.asl_term.proofs.syntax.ListingOf.TheSendSync as listing
use Rattle.asl_term.proofs.syntax.LiteralOf.TheSendSync as literal
use Rattle.asl_term.proofs.syntax.RelOp.TheSendSync as relop
use Rattle.asl_term.proofs.syntax.Term.TheLaws.TheKnot.{send-Term}
use Rattle.asl_term.proofs.syntax.Var.TheSendSync as var
use Rattle.asl_term.specs.contracts.syntax.ArgOf as arg
use Rattle.asl_term.specs.contracts.syntax.CallOf as call
use Rattle.asl_term.specs.contracts.syntax.Expr as expr
use Rattle.asl_term.specs.contracts.syntax.Relation as relation
use Rattle.asl_term.specs.contracts.syntax.Term as term

-- ---- as a field of another type, and alone

pub term_field_send : IsSend (term.the_field).row
term_field_send = search (sendable, send-Term, seq_send, var.the_field_send, literal.the_send, listing.the_send, arith.the_send)

pub term_send : IsSend term.the_row
term_send = search (sendable, term_field_send)

relation_field_send : IsSend (relation.the_field).row
relation_field_send = search (sendable, relop.the_field_send, term_field_send)

arg_send : (h : RattleType) → IsSend h → IsSend (arg.the_row h)
arg_send h s = search (sendable, term_field_send) depth 12

call_send : (h : RattleType) → IsSend h → IsSend (call.the_row h)
call_send h s = search (sendable, seq_send, arg_send) depth 12

pub expr_send : IsSend expr.the_row
expr_send = search (sendable, send-Expr, term_send, literal.the_field_send, relation_field_send, call_send, boxed_send)
