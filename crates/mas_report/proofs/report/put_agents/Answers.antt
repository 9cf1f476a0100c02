use Rattle.std.proofs.Common.{rules, ◌≡◌, ◌++◌, ◌≤◌, ◌+◌, ◌-◌, arith, slice_get}
use Rattle.mas_board.specs.Boards as board
use Rattle.mas_report.specs.Report as spec
use Rattle.mas_report.proofs.Sections.{agents_next}
use Rattle.mas_report.proofs.report.put_agents.Goals as goal

pub agents-preserved : goal.agents-preserved
agents-preserved g c =
    let i = c.agents.invariant in
    let s = c.args.b.now.state in
    let a = c.agents.a in
    let lines = g.M.Mind.kind.lines in
    let l : a ≤ c.len-agents.result = search rules in
    let e : c.put_agent.new.out ≡ c.agents.out ++ spec.agent_text (board.name_of s a) (spec.lines_or_none lines (slice_get c.args.minds.now (a - 1))) (board.seat_at s a) = search rules in
    record {
      from_one = omega arith;
      most = omega (arith, l);
      number = i.number;
      text = agents_next lines s c.args.minds.now a c.len-agents.result c.agents.out c.put_agent.new.out _ l e i.text;
    }
