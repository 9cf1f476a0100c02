use Rattle.std.proofs.Common.{length}
use Rattle.look_mind.proofs.Marking.{MarkingAgents}
use Rattle.look_mind.proofs.marks.marks_of.Given as goal

abbrev pub invariant-agents : goal.invariant-agents
invariant-agents l = MarkingAgents l.own l.all (length l.turns) l.marks.items l.k
