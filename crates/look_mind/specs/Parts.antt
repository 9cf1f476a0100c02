-- What is written of an agent: its text, and the texts that a page tells of.
use Rattle.std.specs.Prelude.{ℕ, List, [], ◌∷◌, ◌++◌, codes}
use Rattle.asl_cycle.specs.Agent.{Mindset}
use Rattle.look_lines.specs.Lines.{literal_line, part}
use Rattle.look_text.specs.Agendas.{acting_text, agenda_text, ask_text, event_text, intentions_text}
use Rattle.look_text.specs.Plans.{plan_line, rule_line}

-- its beliefs, its rules, its plans, and its agenda, among the names of all agents
unfoldable pub mind_parts : List (List ℕ) → Mindset → List ℕ
mind_parts names m =
    part (codes "beliefs") literal_line m.parts.beliefs
    ++ (part (codes "rules") rule_line m.rules ++ (part (codes "plans") (plan_line names) m.plans ++ agenda_text m.kept m.parts.agenda))

-- its beliefs, its events, its stacks: those that run, the one that waits for its action, and those that wait for an answer
abbrev pub agent_texts : Mindset → List (List ℕ)
agent_texts m =
    let agenda = m.parts.agenda in
    part (codes "beliefs") literal_line m.parts.beliefs
    ∷ (part (codes "events") event_text agenda.events
    ∷ (intentions_text agenda.running ∷ (acting_text m.kept agenda.acting ∷ (part (codes "asks") ask_text agenda.asks ∷ []))))
