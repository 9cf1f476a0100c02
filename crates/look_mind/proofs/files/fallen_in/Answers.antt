use Rattle.mas_top_opening.proofs.Able.{can_run}
use Rattle.look_mind.proofs.files.fallen_in.Goals as goal

pub fallen_at-requires : goal.fallen_at-requires
fallen_at-requires g c = can_run _ _ _ _ _ c.in-Ok.ensures.answer
