use Rattle.mas_explore_agent.proofs.Plain.{opens_plain}
use Rattle.mas_explore_agent.proofs.laws.agents_open_plain.Goals as goal

pub returns : goal.returns
returns c = opens_plain
