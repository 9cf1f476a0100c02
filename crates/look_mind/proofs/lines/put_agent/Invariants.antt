use Rattle.look_mind.specs.Rows.{rows_of}
use Rattle.look_mind.proofs.Rowed.{ToldTo}
use Rattle.look_mind.proofs.lines.put_agent.Given as goal

-- the rows of the first of the agent's turns are there
abbrev pub invariant-loop-at : goal.invariant-loop-at
invariant-loop-at l = ToldTo l.told l.name l.own.items l.at (rows_of l.initial.out.items) (rows_of l.out.items)
