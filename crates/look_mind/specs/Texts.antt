-- Which texts of an agent are told of a cycle in which something failed, as it was before that cycle.
use Rattle.std.specs.Prelude.{ℕ, List, [], ◌∷◌, ◌++◌, slice_get, Option, Some, None, codes}
use Rattle.asl_cycle.specs.Agent.{Mindset}
use Rattle.asl_intend.specs.declared.agenda.Acting.{Acting}
use Rattle.asl_intend.specs.declared.agenda.Event.{Event}
use Rattle.asl_intend.specs.declared.entry.Means.{Means}
use Rattle.asl_print.specs.Agents.{trigger_text}
use Rattle.look_lines.specs.Lines.{part}
use Rattle.look_text.specs.Agendas.{ask_text}
use Rattle.look_text.specs.Stacks.{stack_text}

-- the goal of an event on top, and the stack that waits for it
unfoldable pub event_text : Event → List ℕ
event_text e = codes "    " ++ (trigger_text e.trigger ++ (codes "\n" ++ stack_text e.stack))

abbrev pub event_or_none : Option Event → List ℕ
event_or_none None = []
event_or_none (Some e) = event_text e

abbrev pub next_or_none : Option (List Means) → List ℕ
next_or_none None = []
next_or_none (Some stack) = stack_text stack

abbrev pub acting_or_none : Option Acting → List ℕ
acting_or_none None = []
acting_or_none (Some a) = stack_text a.stack

-- its oldest event, the stack that runs next, the one that waits for its action, and those that wait for an answer
abbrev pub agent_texts : Mindset → List (List ℕ)
agent_texts m =
    let agenda = m.parts.agenda in
    event_or_none (slice_get agenda.events 0)
    ∷ (next_or_none (slice_get agenda.running 0) ∷ (acting_or_none agenda.acting ∷ (part (codes "asks") ask_text agenda.asks ∷ [])))
