use Rattle.std.proofs.Common.{◌≡◌}
use Rattle.mas_sites_rounds.specs.Rounds.{Goes}
use Rattle.mas_sites_rounds.proofs.rounds.round.Given as goal

abbrev pub invariant-loop-i : goal.invariant-loop-i
invariant-loop-i g l = Goes g.M.Mind.kind g.C.Carrier.got g.C.Carrier.put l.i l.fn.carrier l.carrier l.fn.stage l.stage × (g.C.Carrier.agents l.carrier ≡ g.C.Carrier.agents l.fn.carrier)
