use Rattle.mas_top_check.specs.Checking.{asks_of}
use Rattle.mas_top_check.proofs.Verdicts.{found_run, own_answer, tells_turns}
use Rattle.mas_top_opening.specs.Opening.{objects_of}
use Rattle.mas_top_check.proofs.checking.answer.Goals as goal

pub answer_of-requires-clause-last : goal.answer_of-requires-clause-last
answer_of-requires-clause-last g c =
    let a = c.args in
    let w = c.in-Ok-Some in
    tells_turns a.source a.bytes.now w.told (found_run a.source a.bytes.now w.told w.field-0 w.field-0-is w.ensures)

pub returns-in-Ok-Some : goal.returns-in-Ok-Some
returns-in-Ok-Some g c =
    let a = c.args in
    let objects = objects_of g.A.Artifact.named g.A.Artifact.table g.A.Artifact.facts a.artifacts.items in
    let w = c.in-Ok-Some in
    own_answer (asks_of a.asks) objects a.source a.bytes.now w.told c.answer_of.result
    (found_run a.source a.bytes.now w.told w.field-0 w.field-0-is w.ensures) c.answer_of.ensures
