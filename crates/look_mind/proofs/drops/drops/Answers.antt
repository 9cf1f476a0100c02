use Rattle.look_mind.proofs.Told.{none_fallen}
use Rattle.look_mind.proofs.drops.drops.Goals as goal

pub returns-in-Ok-None-clause-answer : goal.returns-in-Ok-None-clause-answer
returns-in-Ok-None-clause-answer g c = none_fallen _ _ _ _ c.args.unhandled (rw c.in-Ok-None.field-0-is at c.in-Ok-None.ensures.answer)
