-- What is written of an agenda: events, stacks that run, the one that waits for its action, and those that wait for an answer.
use Rattle.std.specs.Prelude.{ℕ, ◌+◌, List, [], ◌∷◌, ◌++◌, length, Option, Some, None, codes, decimal}
use Rattle.asl_term.specs.Exprs.{literal_text}
use Rattle.asl_term.specs.Texts.{text}
use Rattle.asl_print.specs.Agents.{trigger_text}
use Rattle.asl_intend.specs.declared.agenda.Acting.{Acting}
use Rattle.asl_intend.specs.declared.agenda.Agenda.{Agenda}
use Rattle.asl_intend.specs.declared.agenda.Ask.{Ask}
use Rattle.asl_intend.specs.declared.agenda.Error.{Error}
use Rattle.asl_intend.specs.declared.agenda.Event.{Event}
use Rattle.asl_intend.specs.declared.entry.Means.{Means}
use Rattle.asl_fail.specs.Fails.{error_name}
use Rattle.mas_mind.specs.declared.mind.Feedback.{Feedback}
use Rattle.mas_mind.specs.declared.mind.Feedback.TheVariants.{Done, Failed}
use Rattle.look_lines.specs.Lines.{head, line, part}
use Rattle.look_text.specs.Stacks.{stack_text}

abbrev pub error_text : Option Error → List ℕ
error_text None = []
error_text (Some e) = codes "  error " ++ error_name e

-- an event without a stack is external
abbrev pub stand_text : List Means → List ℕ
stand_text [] = codes "  external"
stand_text (m ∷ below) = codes "  on a stack"

unfoldable pub event_text : Event → List ℕ
event_text e = line (trigger_text e.trigger ++ error_text e.error ++ stand_text e.stack) ++ stack_text e.stack

-- a stack that runs, with its number
unfoldable pub running_text : ℕ → List Means → List ℕ
running_text k stack = line (codes "stack " ++ decimal k) ++ stack_text stack

-- those from this number on
abbrev pub running_from : ℕ → List (List Means) → List ℕ
running_from k [] = []
running_from k (stack ∷ stacks) = running_text k stack ++ running_from (k + 1) stacks

-- all, the next to run first
abbrev pub intentions_text : List (List Means) → List ℕ
intentions_text stacks = head (codes "intentions") (length stacks) ++ running_from 1 stacks

-- what the agent was told of its action
abbrev pub kept_text : Option Feedback → List ℕ
kept_text None = []
kept_text (Some Done) = codes "  done"
kept_text (Some Failed) = codes "  failed"

unfoldable pub held_text : Option Feedback → Acting → List ℕ
held_text kept a = line (codes "action " ++ literal_text a.action ++ kept_text kept) ++ stack_text a.stack

abbrev pub acting_text : Option Feedback → Option Acting → List ℕ
acting_text kept None = head (codes "acting") 0
acting_text kept (Some a) = head (codes "acting") 1 ++ held_text kept a

unfoldable pub ask_text : Ask → List ℕ
ask_text q = line (codes "ask " ++ decimal q.number ++ codes " into " ++ text q.answer) ++ stack_text q.stack

-- the whole
unfoldable pub agenda_text : Option Feedback → Agenda → List ℕ
agenda_text kept a =
    part (codes "events") event_text a.events
    ++ (intentions_text a.running ++ (acting_text kept a.acting ++ part (codes "asks") ask_text a.asks))
