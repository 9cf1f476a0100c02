use Rattle.std.proofs.Common.{◌≡◌, ◌++◌, drop}
use Rattle.look_mind.specs.Entries.{agents_text}
use Rattle.look_mind.proofs.telling.put_agents.Given as goal

abbrev pub invariant-agents : goal.invariant-agents
invariant-agents l =
    l.out ++ agents_text l.unhandled l.fallen l.before l.own l.k (drop l.k l.all)
    ≡ l.fn.out ++ agents_text l.unhandled l.fallen l.before l.own 0 l.fallen.falls
