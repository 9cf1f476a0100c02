use Rattle.mas_top_opening.proofs.Able.{can_run}
use Rattle.look_mind.proofs.files.changes_in.Goals as goal

pub changes_at-requires : goal.changes_at-requires
changes_at-requires g c = can_run _ _ _ _ _ c.in-Ok.ensures.answer
