use Rattle.mas_top_opening.proofs.Able.{can_run}
use Rattle.look_mind.proofs.files.look_in.Goals as goal

pub look_at-requires : goal.look_at-requires
look_at-requires g c = can_run _ _ _ _ _ c.in-Ok.ensures.answer
