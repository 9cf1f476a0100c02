use Rattle.look_mind.specs.Rows.{HasTurns}
use Rattle.look_mind.proofs.lines.turns_of.Given as goal

abbrev pub invariant-loop-at : goal.invariant-loop-at
invariant-loop-at l = HasTurns l.turns l.name l.at l.own.items
