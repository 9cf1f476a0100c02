use Rattle.mas_top_opening.specs.Opening.{objects_of}
use Rattle.mas_top_opening.proofs.Able.{can_run}
use Rattle.mas_top.proofs.demo.demo_of.Goals as goal

pub lines_of_source-requires-clause-can : goal.lines_of_source-requires-clause-can
lines_of_source-requires-clause-can g c κs within =
    can_run (objects_of g.A.Artifact.named g.A.Artifact.table g.A.Artifact.facts c.args.artifacts.items) c.args.o.now.cycles _ _
    c.in-Ok.source c.in-Ok.ensures
