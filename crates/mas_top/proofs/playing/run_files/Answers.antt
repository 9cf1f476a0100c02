use Rattle.mas_top_opening.specs.Opening.{objects_of}
use Rattle.mas_top_opening.proofs.Able.{can_run}
use Rattle.mas_top.proofs.playing.run_files.Goals as goal

pub run_source-requires-clause-can : goal.run_source-requires-clause-can
run_source-requires-clause-can g c κs within =
    can_run (objects_of g.A.Artifact.named g.A.Artifact.table g.A.Artifact.facts c.args.artifacts.items) c.args.o.now.cycles _ _
    c.in_ok-source.source c.in_ok-source.ensures.answer
