-- The plans of an agent's own source stay.
use Rattle.std.specs.Prelude.{◌≡◌, ℕ, true, IfSome, Some}
use Rattle.std.specs.List.{slice_get}
use Rattle.asl_term.specs.declared.syntax.AgentText.{AgentText}
use Rattle.asl_term.specs.declared.syntax.Plan.{Plan}
use Rattle.asl_plans.specs.Laws.{KeepsOwner}
use Rattle.asl_plans.specs.Libraries.{is_owned, opened}
use Rattle.mas_mind.specs.declared.mind.Input.{Input}
use Rattle.asl_cycle.specs.Agent.{Mindset, agent_cycle}

-- rule: no cycle takes a plan of the source away: such a plan is from 0, and each message from another number.
abbrev pub CyclesKeepSource : Type 0
CyclesKeepSource = (m : Mindset) (i : Input) → IfSome i.message (λ x. 0 ≡ x.from → ⊥) → KeepsOwner 0 m.plans (agent_cycle m i).mind.plans

-- and an agent begins with each plan of its source
abbrev pub BeginsWithSource : Type 0
BeginsWithSource = (source : AgentText) (k : ℕ) (p : Plan) → slice_get source.plans k ≡ Some p → is_owned p 0 (opened source.plans) ≡ true
