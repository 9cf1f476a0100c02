use Rattle.mas_explore_space.specs.Met.{AreOpen}
use Rattle.mas_explore_space.proofs.states.open_seats.Given as goal

abbrev pub invariant-loop-i : goal.invariant-loop-i
invariant-loop-i l = AreOpen l.i l.mail l.seats
