use Rattle.mas_top_opening.proofs.Able.{can_run}
use Rattle.look_mind.proofs.files.stacks_in.Goals as goal

pub stacks_at-requires : goal.stacks_at-requires
stacks_at-requires g c = can_run _ _ _ _ _ c.in-Ok.ensures.answer
