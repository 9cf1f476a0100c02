use Rattle.look_mind.specs.Drops.{foreign}
use Rattle.look_mind.proofs.drops.entries_in.Goals as goal

pub returns-in-Ok-None-clause-answer : goal.returns-in-Ok-None-clause-answer
returns-in-Ok-None-clause-answer g c = foreign c.as_slice-marks.result.now (rw c.in-Ok-None.field-0-is at c.in-Ok-None.ensures.answer)
