use Rattle.mas_free.proofs.Moves as moves
use Rattle.mas_free.proofs.laws.turns_move.Goals as goal

pub returns : goal.returns
returns g c = moves.turns_move g.M.Mind.kind g.met.M.Mind.quiet_sends_nothing g.met.M.Steady.quiet_stays
