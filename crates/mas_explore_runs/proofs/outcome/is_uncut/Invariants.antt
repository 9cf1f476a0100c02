use Rattle.std.proofs.Common.{◌≡◌, ◌≤◌, ◌+◌, ◌-◌, length, drop}
use Rattle.mas_free.specs.Outcome.{uncut}
use Rattle.mas_explore_runs.proofs.outcome.is_uncut.Given as goal

abbrev pub invariant-agents : goal.invariant-agents
invariant-agents g l =
    let s = l.b.state in
    record {
      from_one : 1 ≤ l.a;
      most : l.a ≤ l.agents + 1;
      number : l.agents ≡ length s.seats;
      same : uncut (drop (l.a - 1) s.seats) ≡ uncut s.seats;
    }

abbrev pub decreases-agents : goal.decreases-agents
decreases-agents g l = l.agents + 1 - l.a
