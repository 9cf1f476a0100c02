use Rattle.look_mind.proofs.Marking.{MarkingAll}
use Rattle.look_mind.proofs.marks.mark_all.Given as goal

abbrev pub invariant-falls : goal.invariant-falls
invariant-falls l = MarkingAll l.initial.marks.items l.marks.items l.own l.falls l.fall-index
