use Rattle.std.proofs.Common.{◌≤◌, ◌+◌, arith, sym}
use Rattle.mas_free.specs.Free.{at_end}
use Rattle.mas_free.specs.Outcome.{section_of}
use Rattle.mas_explore_space.specs.Held.{start_of}
use Rattle.mas_explore_space.specs.Rows.{free_of}
use Rattle.mas_explore_space.proofs.Sections.{mind_within, section_in, sections_next}
use Rattle.mas_explore_space.proofs.texts.put_agents.Goals as goal

pub put_agent-requires-clause-there : goal.put_agent-requires-clause-there
put_agent-requires-clause-there g c =
    mind_within g.M.Mind.kind (start_of (g.F.FreshWorld.agents c.args.fresh.now) (g.F.FreshWorld.start c.args.fresh.now) (g.F.Fresh.first c.args.fresh.now)) c.args.held.now c.args.state c.args.row.now c.requires.stands c.agents.place c.in-Some.seat.now c.requires.fits (sym c.in-Some.ensures)

pub agents-preserved : goal.agents-preserved
agents-preserved g c =
    let k = g.M.Mind.kind in
    let s = (start_of (g.F.FreshWorld.agents c.args.fresh.now) (g.F.FreshWorld.start c.args.fresh.now) (g.F.Fresh.first c.args.fresh.now)) in
    let h = c.args.held.now in
    let i = c.agents.invariant in
    let place = c.agents.place in
    let l : place + 1 ≤ c.len-agents.result = (let t = c.agents-test.true in omega arith) in
    record {
      most = l;
      number = i.number;
      text =
          sections_next (section_of k c.args.view (at_end (free_of k s h c.args.row.now))) (place + 1) c.len-agents.result c.agents.out c.put_agent.new.out _ l
          (section_in k s h c.args.state c.args.row.now c.requires.stands c.args.view place c.in-Some.seat.now c.agents.out c.put_agent.new.out (sym c.in-Some.ensures) c.in_ok-put_agent.ensures) i.text;
    }
