-- What an agent is: its configuration, and what it has shown so far.
use Rattle.std.specs.Prelude.{ℕ, ◌+◌, Bool, false, List, [], ◌++◌, length, Option, None, Some}
use Rattle.asl_term.specs.declared.syntax.AgentText.{AgentText}
use Rattle.asl_plans.specs.declared.entry.OwnedPlan.{OwnedPlan}
use Rattle.asl_plans.specs.Libraries.{opened}
use Rattle.asl_term.specs.declared.syntax.Clause.{Clause}
use Rattle.asl_resolve.specs.declared.answers.Budgets.{Budgets}
use Rattle.asl_exec_circumstance.specs.Circumstance.{Surroundings, Circumstance, around}
use Rattle.mas_mind.specs.declared.mind.Input.{Input}
use Rattle.mas_mind.specs.declared.mind.Level.{Level}
use Rattle.mas_mind.specs.declared.mind.Feedback.{Feedback}
use Rattle.mas_mind.specs.Minds.{Cycled, Kind, asks_feedback}
use Rattle.asl_exec_circumstance.specs.Contents.{agent_name}
use Rattle.asl_exec_circumstance.specs.declared.peers.Peers.{Peers}
use Rattle.asl_stdlib.specs.Solving.{solve}
use Rattle.asl_cycle.specs.Opening.{opening_parts}
use Rattle.asl_cycle.specs.Cycle.{Ran, cycle}
use Rattle.asl_cycle.specs.Steps.{plans_after}
use Rattle.asl_cycle.specs.Trace.{shown}

-- an agent: its plans, each with those who it is from, its rules, what its rows change, the number of its next ask, the feedback that was told and is still
-- to be used, whether it awaits feedback, the names of all agents and its number, and the lines that it has shown
pub record Mindset : Type 0 where
  pub plans : List OwnedPlan
  pub rules : List Clause
  pub parts : Circumstance
  pub asks : ℕ
  pub kept : Option Feedback
  pub awaits : Bool
  pub cycles : ℕ
  pub level : Level
  pub budgets : Budgets
  pub peers : Peers
  pub text : List ℕ

-- the agent's own name
abbrev pub own_name : Peers → List ℕ
own_name peers = agent_name peers.names peers.me

-- what none of its rows changes: the internal actions of formulas are asked under the agent's own name
abbrev pub surroundings : Mindset → Surroundings
surroundings m = around m.plans m.rules (solve (own_name m.peers)) m.budgets

-- the agent after a cycle: the plans that its message leaves, one cycle more, and those of its lines that the level shows; it awaits
-- feedback for an action
abbrev pub after_cycle : Mindset → Input → Ran → Cycled Mindset
after_cycle m i r = record {
  mind = record m {
    plans = plans_after m.plans m.parts.number i.message;
    parts = r.parts;
    asks = r.asks;
    kept = None;
    awaits = asks_feedback r.thought;
    cycles = m.cycles + 1;
    text = m.text ++ shown m.level (m.cycles + 1) r.lines;
  };
  thought = r.thought;
}

-- rule: an agent after a cycle, with its thought
abbrev pub agent_cycle : Mindset → Input → Cycled Mindset
agent_cycle m i = after_cycle m i (cycle (surroundings m) m.peers m.parts m.asks m.kept i)

-- the agent once it was told what became of its action
abbrev pub told : Mindset → Feedback → Mindset
told m f = record m { kept = Some f; awaits = false }

abbrev pub agent_kind : Kind Mindset
agent_kind = record {
  cycle = agent_cycle;
  took = told;
  awaits = λ m. m.awaits;
  made = λ m. m.cycles;
  lines = λ m. m.text;
  me = λ m. m.peers.me;
  agents = λ m. length m.peers.names;
}

-- rule: the agent of a source before its first cycle, with its number and the names of all agents
abbrev pub opening_mind : ℕ → List (List ℕ) → AgentText → Budgets → Level → Mindset
opening_mind me names source k level = record {
  plans = opened source.plans;
  rules = source.rules;
  parts = opening_parts source;
  asks = 1;
  kept = None;
  awaits = false;
  cycles = 0;
  level = level;
  budgets = k;
  peers = record { names = names; me = me };
  text = [];
}
