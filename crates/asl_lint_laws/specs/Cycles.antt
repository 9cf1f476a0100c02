-- A cycle of an agent all of whose goals are covered never finds an event of a goal without a relevant plan.
use Rattle.std.specs.Prelude.{◌≡◌, ◌-◌, ℕ, Bool, false, List, slice_get, Some, IfSome}
use Rattle.std.specs.List.{AllByRecursion}
use Rattle.asl_term.specs.declared.syntax.AgentText.{AgentText}
use Rattle.asl_plans.specs.declared.entry.OwnedPlan.{OwnedPlan}
use Rattle.asl_exec_circumstance.specs.Circumstance.{Surroundings, Circumstance}
use Rattle.mas_mind.specs.declared.mind.Feedback.{Feedback}
use Rattle.mas_mind.specs.declared.mind.Input.{Input}
use Rattle.mas_mind.specs.declared.mind.Thought.{Thought}
use Rattle.mas_mind.specs.declared.mind.Thought.TheVariants as thought
use Rattle.std.specs.Prelude.{Option}
use Rattle.asl_exec_circumstance.specs.declared.peers.Peers.{Peers}
use Rattle.asl_cycle.specs.declared.rows.TraceLine.{TraceLine}
use Rattle.asl_cycle.specs.declared.rows.TraceLine.TheVariants as line
use Rattle.asl_cycle.specs.Cycle.{Ran, cycle}
use Rattle.asl_cycle.specs.Agent.{Mindset, surroundings, agent_cycle}
use Rattle.asl_lint_laws.specs.Read.{AreGround}
use Rattle.asl_lint_laws.specs.RowsServed.{is_rel3, AroundServed, PartsServed}
use Rattle.asl_lint_laws.specs.Messages.{AreOwn, MessageServed}
use Rattle.asl_lint_laws.specs.Deeds.{AreOpened}

-- ---- the row that never applies

abbrev pub names_rel3 : TraceLine → Bool
names_rel3 (line.Rule r) = is_rel3 r
names_rel3 other = false

-- no line names it
abbrev pub NeverIrrelevant : List TraceLine → Type 0
NeverIrrelevant = AllByRecursion (λ l. names_rel3 l ≡ false)

-- ---- what goes in and out

-- percepts have no variables, and a message in this agent's box brings nothing that is not served
pub record InputServed (libs : List (List OwnedPlan)) (me : ℕ) (i : Input) : Type 0 where
  pub percepts : AreGround i.percepts
  pub message : IfSome i.message (λ m. (m.to - 1 ≡ me - 1) × MessageServed libs m)

abbrev pub ThoughtServed : List (List OwnedPlan) → Thought → Type 0
ThoughtServed libs (thought.Outs o) = AllByRecursion (MessageServed libs) o.messages
ThoughtServed libs thought.Spent = Unit {0}

-- what a cycle leaves, writes and thinks
pub record RanServed (names : List (List ℕ)) (texts : List AgentText) (libs : List (List OwnedPlan)) (plans : List OwnedPlan) (r : Ran) : Type 0 where
  pub parts : PartsServed names texts plans r.parts
  pub lines : NeverIrrelevant r.lines
  pub thought : ThoughtServed libs r.thought

abbrev pub CycleKeeps : Type 0
CycleKeeps =
    (texts : List AgentText) (libs : List (List OwnedPlan)) →
    (k : Surroundings) (peers : Peers) (p : Circumstance) (asks : ℕ) (kept : Option Feedback) (i : Input) →
    AreOpened texts libs → (peers.me ≡ 0 → ⊥) → slice_get libs (peers.me - 1) ≡ Some k.plans → AreOwn k.plans → AroundServed peers.names texts k →
    PartsServed peers.names texts k.plans p → InputServed libs peers.me i →
    RanServed peers.names texts libs k.plans (cycle k peers p asks kept i)

-- ---- agents

-- an agent of this number, among agents with these sources
pub record AgentServed (texts : List AgentText) (libs : List (List OwnedPlan)) (m : Mindset) : Type 0 where
  pub number : m.peers.me ≡ 0 → ⊥
  pub plans : slice_get libs (m.peers.me - 1) ≡ Some m.plans
  pub own : AreOwn m.plans
  pub around : AroundServed m.peers.names texts (surroundings m)
  pub parts : PartsServed m.peers.names texts m.plans m.parts

-- a cycle leaves it so, and its lines never name the row
pub record CycledServed (texts : List AgentText) (libs : List (List OwnedPlan)) (m : Mindset) (i : Input) : Type 0 where
  pub mind : AgentServed texts libs (agent_cycle m i).mind
  pub lines : NeverIrrelevant (cycle (surroundings m) m.peers m.parts m.asks m.kept i).lines
  pub thought : ThoughtServed libs (agent_cycle m i).thought

abbrev pub AgentKeeps : Type 0
AgentKeeps =
    (texts : List AgentText) (libs : List (List OwnedPlan)) (m : Mindset) (i : Input) → AreOpened texts libs → AgentServed texts libs m →
    InputServed libs m.peers.me i → CycledServed texts libs m i
