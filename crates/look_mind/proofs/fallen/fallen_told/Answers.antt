use Rattle.mas_top_opening.specs.Opening.{objects_of}
use Rattle.look_mind.proofs.Loud.{are_falls, no_falls}
use Rattle.look_mind.proofs.fallen.fallen_told.Goals as goal

pub returns-in-None : goal.returns-in-None
returns-in-None g c =
    let a = c.args in
    let objects = objects_of g.A.Artifact.named g.A.Artifact.table g.A.Artifact.facts a.artifacts.items in
    no_falls objects a.source a.told c.loud.result c.loud.ensures (rw c.in-None.is at c.in_ok-found.ensures)

pub returns-in-Some : goal.returns-in-Some
returns-in-Some g c =
    let a = c.args in
    let objects = objects_of g.A.Artifact.named g.A.Artifact.table g.A.Artifact.facts a.artifacts.items in
    are_falls objects a.source a.told c.loud.result c.in_ok-names.names c.in-Some.falls c.requires.allowed
    c.loud.ensures c.in_ok-names.ensures (rw c.in-Some.is at c.in_ok-found.ensures)
