-- The text of each part of an agent.
use Rattle.std.specs.Prelude.{ℕ, List, slice_get, codes}
use Rattle.asl_cycle.specs.Agent.{Mindset}
use Rattle.look_lines.specs.Lines.{literal_line, part}
use Rattle.look_text.specs.Agendas.{acting_text, ask_text, event_text, intentions_text}
use Rattle.look_mind.specs.declared.agent.AgentPart.{AgentPart}
use Rattle.look_mind.specs.declared.agent.AgentPart.TheVariants.{Beliefs, Events, Running, Acting, Asks, Oldest, Next, Held}
use Rattle.look_mind.specs.Texts.{acting_or_none, event_or_none, next_or_none}

abbrev pub part_text : Mindset → AgentPart → List ℕ
part_text m Beliefs = part (codes "beliefs") literal_line m.parts.beliefs
part_text m Events = part (codes "events") event_text m.parts.agenda.events
part_text m Running = intentions_text m.parts.agenda.running
part_text m Acting = acting_text m.kept m.parts.agenda.acting
part_text m Asks = part (codes "asks") ask_text m.parts.agenda.asks
part_text m Oldest = event_or_none (slice_get m.parts.agenda.events 0)
part_text m Next = next_or_none (slice_get m.parts.agenda.running 0)
part_text m Held = acting_or_none m.parts.agenda.acting
