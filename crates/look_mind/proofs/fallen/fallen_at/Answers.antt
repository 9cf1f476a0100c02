use Rattle.mas_top_check.proofs.Verdicts.{found_none, found_run}
use Rattle.mas_top_opening.specs.Opening.{objects_of}
use Rattle.look_mind.proofs.Loud.{none_shown, shown}
use Rattle.look_mind.proofs.fallen.fallen_at.Goals as goal

pub returns-in-Ok-None : goal.returns-in-Ok-None
returns-in-Ok-None g c =
    let a = c.args in
    let objects = objects_of g.A.Artifact.named g.A.Artifact.table g.A.Artifact.facts a.artifacts.items in
    let w = c.in-Ok-None in
    none_shown objects a.source a.bytes.now (found_none a.source a.bytes.now w.field-0 w.field-0-is w.ensures)

pub returns-in-Ok-Some : goal.returns-in-Ok-Some
returns-in-Ok-Some g c =
    let a = c.args in
    let objects = objects_of g.A.Artifact.named g.A.Artifact.table g.A.Artifact.facts a.artifacts.items in
    let w = c.in-Ok-Some in
    shown objects a.source a.bytes.now w.told c.fallen_told.result
    (found_run a.source a.bytes.now w.told w.field-0 w.field-0-is w.ensures) c.fallen_told.ensures
