use Rattle.mas_explore_agent.specs.inner.Likes.{quiet_stays}
use Rattle.mas_explore_agent.proofs.laws.agents_are_steady.Goals as goal

pub returns : goal.returns
returns c = quiet_stays
