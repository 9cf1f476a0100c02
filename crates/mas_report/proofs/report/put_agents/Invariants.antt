use Rattle.std.proofs.Common.{◌≡◌, ◌≤◌, ◌++◌, ◌+◌, ◌-◌, length}
use Rattle.mas_report.specs.Report.{agents_text}
use Rattle.mas_report.proofs.report.put_agents.Given as goal

abbrev pub invariant-agents : goal.invariant-agents
invariant-agents g l =
    let s = l.b.state in
    let lines = g.M.Mind.kind.lines in
    record {
      from_one : 1 ≤ l.a;
      most : l.a ≤ l.agents + 1;
      number : l.agents ≡ length s.seats;
      text : l.out ++ agents_text lines s l.minds l.a (l.agents + 1 - l.a) ≡ l.fn.out ++ agents_text lines s l.minds 1 (length s.seats);
    }

abbrev pub decreases-agents : goal.decreases-agents
decreases-agents g l = l.agents + 1 - l.a
