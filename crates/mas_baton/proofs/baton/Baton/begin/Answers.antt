use Rattle.mas_baton.proofs.Openings.{opens_board}
use Rattle.mas_baton.proofs.baton.Baton.begin.Goals as goal

pub try_push_as-requires-clause-rule : goal.try_push_as-requires-clause-rule
try_push_as-requires-clause-rule g c = opens_board _ _ _ c.loop.board c.loop.invariant.empty
