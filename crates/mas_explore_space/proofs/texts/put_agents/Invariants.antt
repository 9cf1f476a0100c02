use Rattle.std.proofs.Common.{◌≡◌, ◌≤◌, ◌++◌, ◌+◌, ◌-◌, length}
use Rattle.mas_free.specs.Free.{at_end}
use Rattle.mas_free.specs.Outcome.{section_of, sections}
use Rattle.mas_explore_space.specs.Held.{start_of}
use Rattle.mas_explore_space.specs.Rows.{free_of}
use Rattle.mas_explore_space.specs.Texts.{agents_text}
use Rattle.mas_explore_space.proofs.texts.put_agents.Given as goal

abbrev pub invariant-agents : goal.invariant-agents
invariant-agents g l =
    let k = g.M.Mind.kind in
    let f = free_of k (start_of (g.F.FreshWorld.agents l.fresh) (g.F.FreshWorld.start l.fresh) (g.F.Fresh.first l.fresh)) l.held l.row in
    record {
      most : l.place ≤ l.agents;
      number : l.agents ≡ length f.stages;
      text : l.out ++ sections (section_of k l.view (at_end f)) (l.place + 1) (l.agents + 1 - (l.place + 1)) ≡ l.fn.out ++ agents_text k l.view f;
    }

abbrev pub decreases-agents : goal.decreases-agents
decreases-agents g l = l.agents - l.place
