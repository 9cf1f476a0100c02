use Rattle.std.proofs.Common.{subst, sym}
use Rattle.asl_cycle.specs.Agent.{Mindset, agent_kind}
use Rattle.mas_free.specs.Alike.{IsPlain}
use Rattle.mas_explore_agent.proofs.Plain.{opens_plain}
use Rattle.mas_explore_agent.proofs.agent.open_steady.Goals as goal

pub returns-clause-plain : goal.returns-clause-plain
returns-clause-plain c = λ h. subst (λ (m : Mindset). IsPlain agent_kind m) (sym c.in_ok-agent.ensures)
    (opens_plain c.args.me c.args.names.now c.args.source.now c.args.budgets c.args.level h)
