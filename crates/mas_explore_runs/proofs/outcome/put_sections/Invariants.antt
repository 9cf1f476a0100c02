use Rattle.std.proofs.Common.{◌≡◌, ◌≤◌, ◌++◌, ◌+◌, ◌-◌, length}
use Rattle.mas_free.specs.Outcome.{sections, section_of}
use Rattle.mas_explore_runs.specs.Runs.{platform_of}
use Rattle.mas_explore_runs.proofs.outcome.put_sections.Given as goal

abbrev pub invariant-agents : goal.invariant-agents
invariant-agents g l =
    let s = l.d.board.state in
    let of = section_of g.M.Mind.kind l.view (platform_of s l.d.minds) in
    record {
      from_one : 1 ≤ l.a;
      most : l.a ≤ l.agents + 1;
      number : l.agents ≡ length s.seats;
      text : l.out ++ sections of l.a (l.agents + 1 - l.a) ≡ l.fn.out ++ sections of 1 (length s.seats);
    }

abbrev pub decreases-agents : goal.decreases-agents
decreases-agents g l = l.agents + 1 - l.a
