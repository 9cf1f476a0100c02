use Rattle.look_mind.specs.Rows.{rows_of}
use Rattle.look_mind.proofs.Rowed.{ToldBelow}
use Rattle.look_mind.proofs.lines.mind_lines.Given as goal

-- the agents with lower numbers are told
abbrev pub invariant-loop-name : goal.invariant-loop-name
invariant-loop-name l = ToldBelow l.told l.name (rows_of l.out.items)
