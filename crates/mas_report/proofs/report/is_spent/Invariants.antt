use Rattle.std.proofs.Common.{◌≡◌, ◌≤◌, ◌+◌, ◌-◌, length, drop}
use Rattle.mas_report.specs.Report as spec
use Rattle.mas_report.proofs.report.is_spent.Given as goal

abbrev pub invariant-agents : goal.invariant-agents
invariant-agents g l =
    let s = l.b.state in
    record {
      from_one : 1 ≤ l.a;
      most : l.a ≤ l.agents + 1;
      number : l.agents ≡ length s.seats;
      same : spec.is_spent (drop (l.a - 1) s.seats) ≡ spec.is_spent s.seats;
    }

abbrev pub decreases-agents : goal.decreases-agents
decreases-agents g l = l.agents + 1 - l.a
