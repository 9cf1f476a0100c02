-- An agent may go to another thread, since nothing in it is bound to one. It takes a proof by parts, as what holds terms or expressions has no such
-- lemma of its own.
use denote.Param.Send.{IsSend, sendable, view_send}
use denote.Param.SendFields.{as_row_send, declared_send}
use denote.RattleType.{RattleType}
use Rattle.std.proofs.Crossing.{crosses}
use Rattle.asl_term.proofs.boxed.Boxed.TheSendSync.{the_send as boxed_send}
use Rattle.asl_term.proofs.sequence.Seq.TheSendSync.{the_send as seq_send}
use Rattle.asl_term.proofs.syntax.Expr.TheLaws.TheKnot.{send-Expr}
use Rattle.asl_term.proofs.syntax.Kind.TheSendSync as kind
use Rattle.asl_term.proofs.syntax.LiteralOf.TheSendSync as literal
use Rattle.asl_term.proofs.syntax.RelOp.TheSendSync as relop
use Rattle.asl_term.proofs.syntax.Var.TheSendSync as var
use Rattle.asl_term.proofs.Sends.{term_field_send, term_send, expr_send}
use Rattle.asl_term.specs.contracts.syntax.ArgOf as arg
use Rattle.asl_term.specs.contracts.syntax.CallOf as call
use Rattle.asl_term.specs.contracts.syntax.Expr as expr
use Rattle.asl_term.specs.contracts.syntax.Relation as relation
use Rattle.asl_term.specs.contracts.syntax.Clause as clause
use Rattle.asl_term.specs.contracts.syntax.Formula as formula
use Rattle.asl_term.specs.contracts.syntax.Plan as plan
use Rattle.asl_term.specs.contracts.syntax.Trigger as trigger
use Rattle.asl_unify.proofs.log.Index.TheSendSync as index
use Rattle.asl_unify.proofs.slots.Slots.TheSendSync as slots
use Rattle.asl_unify.specs.contracts.log.Log as log
use Rattle.asl_unify.specs.contracts.log.Log.TheInside as log_inside
use Rattle.asl_unify.specs.contracts.subst.Pair as pair
use Rattle.asl_unify.specs.contracts.subst.Subst as bound
use Rattle.asl_unify.specs.contracts.subst.Subst.TheInside as bound_inside
use Rattle.asl_term_queue.proofs.queue.Queue.TheSendSync.{the_send as queue_send}
use Rattle.asl_intend.proofs.agenda.Error.TheSendSync as error
use Rattle.asl_intend.specs.contracts.entry.First as first
use Rattle.asl_intend.specs.contracts.entry.StackEntry as entry
use Rattle.asl_intend.specs.contracts.stack.Stack as stack
use Rattle.asl_intend.specs.contracts.stack.Stack.TheInside as stack_inside
use Rattle.asl_intend.specs.contracts.event_trigger.Form as form
use Rattle.asl_intend.specs.contracts.event_trigger.EventTrigger as told
use Rattle.asl_intend.specs.contracts.event_trigger.EventTrigger.TheInside as told_inside
use Rattle.asl_intend.specs.contracts.agenda.Event as event
use Rattle.asl_intend.specs.contracts.agenda.Ask as ask
use Rattle.asl_intend.specs.contracts.agenda.Acting as acting
use Rattle.asl_intend.specs.contracts.agenda.Agenda as agenda
use Rattle.asl_exec_circumstance.specs.contracts.parts.Circumstance as parts
use Rattle.asl_exec_circumstance.specs.contracts.parts.Surroundings as around
use Rattle.asl_exec_circumstance.proofs.shared.SharedNames.TheSendSync.{the_send as names_send}
use Rattle.asl_exec_circumstance.specs.contracts.peers.Peers as peers
use Rattle.mas_mind.proofs.mind.Feedback.TheSendSync as feedback
use Rattle.mas_mind.proofs.mind.Level.TheSendSync as level
use Rattle.asl_stdlib.specs.contracts.standard.StandardActions as standard
use Rattle.asl_cycle.specs.contracts.agent.Agent as agent
use Rattle.asl_cycle.specs.contracts.agent.Agent.TheInside as inside
use Rattle.asl_plans.specs.contracts.entry.OwnedPlan as held
use Rattle.asl_plans.specs.contracts.library.Library as library
use Rattle.asl_plans.specs.contracts.library.Library.TheInside as library_inside
use Rattle.asl_plans.proofs.filing.FiledPlaces.TheSendSync.{the_send as filed_send}
use Rattle.asl_index_tables.proofs.frames.Frames.TheSendSync.{the_send as frames_send}
use Rattle.asl_index_tables.proofs.keys.Keys.TheSendSync.{the_send as keys_send}
use Rattle.asl_index.specs.contracts.store.Store as store
use Rattle.asl_index.specs.contracts.store.Store.TheInside as store_inside
use Rattle.asl_index.specs.contracts.indexed.Indexed as indexed
use Rattle.asl_index.specs.contracts.indexed.Indexed.TheInside as indexed_inside

relation_field_send : IsSend (relation.the_field).row
relation_field_send = search (sendable, relop.the_field_send, term_field_send)

arg_send : (h : RattleType) → IsSend h → IsSend (arg.the_row h)
arg_send h s = search (sendable, term_field_send) depth 12

call_send : (h : RattleType) → IsSend h → IsSend (call.the_row h)
call_send h s = search (sendable, seq_send, arg_send) depth 12

expr_field_send : IsSend (expr.the_field).row
expr_field_send = search (sendable, send-Expr, term_send, literal.the_field_send, relation_field_send, call_send, boxed_send)

trigger_field_send : IsSend (trigger.the_field).row
trigger_field_send = search (sendable, as_row_send, kind.the_field_send, literal.the_field_send, literal.the_send, term_send, term_field_send) depth 12

clause_send : IsSend clause.the_row
clause_send = search (sendable, as_row_send, literal.the_field_send, literal.the_send, term_send, term_field_send, expr_field_send) depth 12

call_field_send : IsSend (call.the_field expr.the_row).row
call_field_send = search (sendable, seq_send, arg_send, expr_send) depth 14

formula_send : IsSend formula.the_row
formula_send = search (sendable, as_row_send, literal.the_field_send, term_send, relation_field_send, call_field_send) depth 30

formula_field_send : IsSend (formula.the_field).row
formula_field_send = search (sendable, as_row_send, literal.the_field_send, term_send, relation_field_send, call_field_send) depth 30

plan_field_send : IsSend (plan.the_field).row
plan_field_send = search (sendable, as_row_send, seq_send, trigger_field_send, expr_field_send, formula_send) depth 14

held_send : IsSend held.the_row
held_send = search (sendable, as_row_send, seq_send, plan_field_send) depth 14

library_send : IsSend library.the_row
library_send = view_send library_inside.the_row _ _ _ _ (declared_send library_inside.the_type (seq_send _ held_send, (filed_send, (keys_send, tt))))

store_send : IsSend store.the_row
store_send = view_send store_inside.the_row _ _ _ _ (declared_send store_inside.the_type (
  search (sendable, as_row_send, seq_send, literal.the_field_send, literal.the_send, term_send) depth 14,
  (frames_send, (keys_send, (search sendable, (search (sendable, as_row_send, seq_send) depth 14, (search (sendable, as_row_send, seq_send) depth 14, tt))))),
))

indexed_send : IsSend indexed.the_row
indexed_send = view_send indexed_inside.the_row _ _ _ _ (declared_send indexed_inside.the_type (store_send, (seq_send _ clause_send, (frames_send, tt))))

-- ---- stacks, and what waits with one

pair_send : IsSend pair.the_row
pair_send = search (sendable, as_row_send, var.the_field_send, var.the_send, term_field_send) depth 16

subst_send : IsSend bound.the_row
subst_send = view_send bound_inside.the_row _ _ _ _ (declared_send bound_inside.the_type (seq_send _ pair_send, (search (sendable, as_row_send, crosses, slots.the_field_send, slots.the_send) depth 14, tt)))

first_send : IsSend first.the_row
first_send = search (sendable, as_row_send, formula_field_send) depth 16

entry_send : IsSend entry.the_row
entry_send = search (sendable, as_row_send, queue_send, trigger_field_send, subst_send, first_send, formula_send) depth 20

log_send : IsSend log.the_row
log_send = view_send log_inside.the_row _ _ _ _ (declared_send log_inside.the_type (seq_send _ subst_send, (search (sendable, as_row_send, crosses, index.the_send) depth 14, tt)))

stack_send : IsSend stack.the_row
stack_send = view_send stack_inside.the_row _ _ _ _ (declared_send stack_inside.the_type (log_send, (search (sendable, as_row_send, crosses, entry_send) depth 16, tt)))

entry_field_send : IsSend (entry.the_field).row
entry_field_send = search (sendable, as_row_send, queue_send, trigger_field_send, subst_send, first_send, formula_send) depth 20

form_send : IsSend form.the_row
form_send = search (sendable, as_row_send, trigger_field_send, entry_field_send, log_send) depth 20

told_send : IsSend told.the_row
told_send = view_send told_inside.the_row _ _ _ _ (declared_send told_inside.the_type (search (sendable, as_row_send, crosses, form_send) depth 16, tt))

event_send : IsSend event.the_row
event_send = search (sendable, as_row_send, told_send, stack_send, error.the_field_send) depth 20

ask_send : IsSend ask.the_row
ask_send = search (sendable, as_row_send, term_field_send, stack_send) depth 20

acting_send : IsSend acting.the_row
acting_send = search (sendable, as_row_send, literal.the_field_send, term_send, stack_send) depth 20

agenda_send : IsSend agenda.the_row
agenda_send = search (sendable, as_row_send, seq_send, queue_send, event_send, stack_send, acting_send, ask_send) depth 20

-- ---- the parts of an agent

standard_send : IsSend standard.the_row
standard_send = search (sendable, as_row_send, seq_send) depth 16

parts_of : (B : RattleType) → IsSend B → IsSend (parts.the_row B)
parts_of B s = declared_send (parts.the_type B) (search (sendable, as_row_send), (agenda_send, (search (sendable, as_row_send), tt)))

around_of : (A : RattleType) → IsSend A → IsSend (around.the_row A)
around_of A s = declared_send (around.the_type A) (library_send, (search (sendable, as_row_send), (search (sendable, as_row_send), tt)))

parts_send : IsSend (parts.the_row indexed.the_row)
parts_send = parts_of indexed.the_row indexed_send

around_send : IsSend (around.the_row standard.the_row)
around_send = around_of standard.the_row standard_send

peers_send : IsSend peers.the_row
peers_send = search (sendable, as_row_send, names_send) depth 16

pub agent_send : IsSend agent.the_row
agent_send = view_send inside.the_row _ _ _ _ (declared_send inside.the_type (
  around_send,
  (
    parts_send,
    (
      search (sendable, as_row_send),
      (
        search (sendable, as_row_send, feedback.the_send, feedback.the_field_send) depth 12,
        (
          search (sendable, as_row_send),
          (
            search (sendable, as_row_send),
            (
              search (sendable, as_row_send, level.the_send, level.the_field_send) depth 12,
              (
                search (sendable, as_row_send, peers_send) depth 12,
                (
                  search (sendable, as_row_send, seq_send) depth 12,
                  tt,
                ),
              ),
            ),
          ),
        ),
      ),
    ),
  ),
))
