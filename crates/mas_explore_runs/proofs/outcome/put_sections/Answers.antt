use Rattle.std.proofs.Common.{rules, ◌≡◌, ◌++◌, ◌≤◌, arith, length}
use Rattle.mas_free.specs.Outcome.{sections, section_of}
use Rattle.mas_explore_runs.specs.Runs.{platform_of}
use Rattle.mas_explore_runs.proofs.Sections.{sections_next}
use Rattle.mas_explore_runs.proofs.outcome.put_sections.Goals as goal

pub agents-preserved : goal.agents-preserved
agents-preserved g c =
    let i = c.agents.invariant in
    let of = section_of g.M.Mind.kind c.args.view (platform_of c.args.d.now.board.state c.args.d.now.minds) in
    let a = c.agents.a in
    let total = c.args.out.now ++ sections of 1 (length c.args.d.now.board.state.seats) in
    let l : a ≤ c.len-agents.result = search rules in
    let e : c.put_agent.new.out ≡ c.agents.out ++ of a = search rules in
    record {
      from_one = omega arith;
      most = omega (arith, l);
      number = i.number;
      text = sections_next of a c.len-agents.result c.agents.out c.put_agent.new.out total l e i.text;
    }
