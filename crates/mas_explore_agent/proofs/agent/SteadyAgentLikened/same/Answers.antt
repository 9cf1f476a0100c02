use Rattle.std.proofs.Common.{subst}
use Rattle.asl_cycle.specs.Agent.{Mindset, agent_kind}
use Rattle.mas_explore_likes.specs.Likes.{GoAlike}
use Rattle.mas_explore_agent.proofs.Sames.{goes_alike}
use Rattle.mas_explore_agent.proofs.agent.SteadyAgentLikened.same.Goals as goal

pub returns : goal.returns
returns c = λ e.
    let P = λ (m : Mindset). GoAlike agent_kind m c.args.other.now in
    let Q = λ (n : Mindset). GoAlike agent_kind c.self.inside.agent n in
    subst P c.self.view_is (subst Q c.other.view_is (goes_alike c.self.inside.agent c.other.inside.agent (c.in_ok-same.ensures e)))
