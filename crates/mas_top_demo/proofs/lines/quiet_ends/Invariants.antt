use Rattle.std.proofs.Common.{◌≡◌, ◌≤◌, ◌<◌, ◌+◌, ◌-◌, length, drop}
use Rattle.mas_top_demo.specs.Lines as spec
use Rattle.mas_top_demo.proofs.lines.quiet_ends.Given as goal

abbrev pub invariant-agents : goal.invariant-agents
invariant-agents g l =
    let s = l.b.state in
    record {
      from_one : 1 ≤ l.a;
      most : l.a ≤ l.agents + 1;
      number : l.agents ≡ length s.seats;
      few : l.quiet < l.a;
      same : l.quiet + spec.quiet_ends (drop (l.a - 1) s.seats) ≡ spec.quiet_ends s.seats;
    }

abbrev pub decreases-agents : goal.decreases-agents
decreases-agents g l = l.agents + 1 - l.a
