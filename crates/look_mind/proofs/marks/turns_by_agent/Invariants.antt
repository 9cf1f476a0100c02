use Rattle.look_mind.proofs.Marking.{Owning}
use Rattle.look_mind.proofs.marks.turns_by_agent.Given as goal

abbrev pub invariant-turns : goal.invariant-turns
invariant-turns l = Owning l.turns l.agents l.own l.at
