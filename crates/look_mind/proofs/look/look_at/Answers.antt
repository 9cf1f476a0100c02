use Rattle.std.proofs.Common.{subst}
use Rattle.mas_top_check.specs.Checking.{IsOwn}
use Rattle.mas_top_check.proofs.Verdicts.{shows_none_by}
use Rattle.mas_top_opening.specs.Opening.{objects_of}
use Rattle.look_mind.proofs.look.look_at.Goals as goal

pub returns-in-Ok-None : goal.returns-in-Ok-None
returns-in-Ok-None g c =
    let a = c.args in
    let objects = objects_of g.A.Artifact.named g.A.Artifact.table g.A.Artifact.facts a.artifacts.items in
    let w = c.in-Ok-None in
    subst (λ bytes. IsOwn objects a.source bytes → ⊥) c.as_slice.ensures
    (shows_none_by objects a.source c.as_slice.result.now w.field-0 w.field-0-is w.ensures)
