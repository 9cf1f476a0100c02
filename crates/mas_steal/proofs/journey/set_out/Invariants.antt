use Rattle.mas_steal.specs.Journeys.{AreSetOut}
use Rattle.mas_steal.proofs.journey.set_out.Given as goal

abbrev pub invariant-loop-going : goal.invariant-loop-going
invariant-loop-going g l = AreSetOut l.baton l.beginning.value l.yielded l.journeys.items
