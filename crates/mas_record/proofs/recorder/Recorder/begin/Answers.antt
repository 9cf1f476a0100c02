use Rattle.mas_record.proofs.Openings.{opens_deck}
use Rattle.mas_record.proofs.recorder.Recorder.begin.Goals as goal

pub try_push_as-requires-clause-rule : goal.try_push_as-requires-clause-rule
try_push_as-requires-clause-rule g c = let i = c.loop.invariant in opens_deck g.D.Disk.state _ _ _ _ _ i.empty i.deck c.requires.shown c.requires.kept
