use Rattle.std.proofs.Common.{ap, ◌∙◌}
use Rattle.mas_top_files.specs.Known.{known}
use Rattle.mas_top_opening.specs.Opening.{objects_of}
use Rattle.mas_top_opening.proofs.Known.{known_as}
use Rattle.mas_top_opening.proofs.reading.read_source.Goals as goal

pub returns-clause-answer : goal.returns-clause-answer
returns-clause-answer g c =
    let seen = objects_of g.A.Artifact.named g.A.Artifact.table g.A.Artifact.facts in
    known_as _ (seen c.args.artifacts.now.items) _ _ _ _ _ _
    (c.in_ok-known.ensures ∙ ap (λ all. known (seen all)) c.as_slice.ensures.value) c.sources.ensures.answer
