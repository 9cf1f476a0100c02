use Rattle.mas_top_opening.specs.Opening.{objects_of}
use Rattle.mas_top_opening.proofs.Starts.{starts}
use Rattle.look_mind.proofs.stacks.texts_of.Goals as goal

pub texts_along-requires-clause-start : goal.texts_along-requires-clause-start
texts_along-requires-clause-start g c =
    let objects = objects_of g.A.Artifact.named g.A.Artifact.table g.A.Artifact.facts c.args.artifacts.items in
    starts c.args.told.now.options objects c.args.source _ _ c.requires.can c.in-Ok.ensures.board c.in-Ok.ensures.minds
