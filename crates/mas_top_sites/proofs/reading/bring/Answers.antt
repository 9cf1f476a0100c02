use Rattle.std.proofs.Common.{ap, ◌∙◌}
use Rattle.mas_top_opening.specs.Opening.{objects_of}
use Rattle.mas_top_files.specs.Known.{known}
use Rattle.mas_world.specs.Worlds.{taken}
use Rattle.mas_top_sites.specs.Artifacts.{uses_of, left_by}
use Rattle.mas_top_sites.proofs.Described.{is_brought}
use Rattle.mas_top_sites.proofs.reading.bring.Goals as goal

pub returns-clause-answer : goal.returns-clause-answer
returns-clause-answer g c =
    let objects = objects_of g.A.Artifact.named g.A.Artifact.table g.A.Artifact.facts in
    let all = objects c.args.left.now.items in
    is_brought c.in_ok-artifacts.artifacts all (g.S.Shelf.holds c.args.shelf.now) c.args.p.now c.in_ok-source.source c.in_ok-used.used
    (objects c.take_used.new.left.items)
    (c.in_ok-artifacts.ensures ∙ ap (λ items. known (objects items)) c.as_slice.ensures.value) c.in_ok-source.ensures.answer
    (c.in_ok-used.ensures.used ∙ ap (λ world. taken (uses_of world) all) c.as_ref.ensures.value)
    (c.in_ok-used.ensures.left ∙ ap (λ world. left_by world all) c.as_ref.ensures.value)
