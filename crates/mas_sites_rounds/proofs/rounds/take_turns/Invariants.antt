use Rattle.mas_sites_rounds.specs.Rounds.{met, IsMeeting}
use Rattle.mas_sites_rounds.proofs.rounds.take_turns.Given as goal

abbrev pub invariant-loop-cycle : goal.invariant-loop-cycle
invariant-loop-cycle g l = IsMeeting g.M.Mind.kind (met l.fn.both.one l.fn.both.two l.fn.both.ways) (met l.both.one l.both.two l.both.ways) l.cycle
