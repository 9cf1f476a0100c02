use Rattle.mas_project.proofs.Agents as agents
use Rattle.mas_project.proofs.laws.some_agents.Goals as goal

pub returns : goal.returns
returns c = agents.some_agents
