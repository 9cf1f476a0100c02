use Rattle.mas_top_opening.specs.Opening.{objects_of}
use Rattle.mas_top.specs.Recording.{lent, recorded_of}
use Rattle.mas_top_opening.proofs.Able.{can_run}
use Rattle.mas_top.proofs.Recorded.{answered}
use Rattle.mas_top.proofs.recording.record_files.Goals as goal

pub record_source-requires-clause-can : goal.record_source-requires-clause-can
record_source-requires-clause-can g c κs within =
    can_run (objects_of g.A.Artifact.named g.A.Artifact.table g.A.Artifact.facts c.args.artifacts.items) c.args.o.now.cycles _ _
    c.in_ok-source.source c.in_ok-source.ensures.answer

pub returns-clause-answer : goal.returns-clause-answer
returns-clause-answer g c =
    answered (lent g.D.Disk.state c.args.disk.now c.record_source.new.disk) c.args.o.now
    (objects_of g.A.Artifact.named g.A.Artifact.table g.A.Artifact.facts c.args.artifacts.items) (recorded_of c.args.r.now)
    (g.S.Shelf.holds c.args.shelf.now) c.in_ok-source.source _ _ c.in_ok-word.word c.in_ok-file.file c.record_source.result
    c.in_ok-word.ensures c.in_ok-file.ensures c.in_ok-source.ensures.answer c.record_source.ensures.answer
