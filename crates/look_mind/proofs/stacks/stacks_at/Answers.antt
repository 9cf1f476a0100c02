use Rattle.mas_top_check.proofs.Verdicts.{found_run, tells_turns}
use Rattle.mas_top_opening.specs.Opening.{objects_of}
use Rattle.look_mind.proofs.Stacked.{owned}
use Rattle.look_mind.proofs.stacks.stacks_at.Goals as goal

pub texts_of-requires-clause-last : goal.texts_of-requires-clause-last
texts_of-requires-clause-last g c =
    let a = c.args in
    let w = c.in-Ok-Some in
    tells_turns a.source a.bytes.now w.told (found_run a.source a.bytes.now w.told w.field-0 w.field-0-is w.ensures)

pub returns-in-Ok-Some : goal.returns-in-Ok-Some
returns-in-Ok-Some g c =
    let a = c.args in
    let objects = objects_of g.A.Artifact.named g.A.Artifact.table g.A.Artifact.facts a.artifacts.items in
    let w = c.in-Ok-Some in
    owned objects a.source a.bytes.now w.told a.marks.now c.len-t.result c.texts_of.result
    (found_run a.source a.bytes.now w.told w.field-0 w.field-0-is w.ensures) c.len-t.ensures c.texts_of.ensures
