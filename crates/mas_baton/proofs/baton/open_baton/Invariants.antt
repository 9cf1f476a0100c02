use Rattle.mas_baton.specs.Gathering.{Handing}
use Rattle.mas_baton.proofs.baton.open_baton.Given as goal

abbrev pub invariant-loop-k : goal.invariant-loop-k
invariant-loop-k g l = Handing l.baton l.fn.board l.k l.pass l.seats
