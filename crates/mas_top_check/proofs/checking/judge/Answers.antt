use Rattle.std.proofs.Common.{subst}
use Rattle.mas_top_files.specs.Known.{known}
use Rattle.mas_top_files.specs.Sources.{AreRefused}
use Rattle.mas_top_check.specs.Checking.{asks_of, claim}
use Rattle.mas_top_opening.specs.Opening.{objects_of}
use Rattle.mas_top_check.proofs.Verdicts.{no_source}
use Rattle.mas_top_check.proofs.checking.judge.Goals as goal

pub returns-clause-answer : goal.returns-clause-answer
returns-clause-answer g c =
    let a = c.args in
    let objects = objects_of g.A.Artifact.named g.A.Artifact.table g.A.Artifact.facts a.artifacts.items in
    let held = g.S.Shelf.holds a.shelf.now in
    let usual = c.default_options-usual in
    let before = g.S.Shelf.faults a.shelf.now in
    let after = g.S.Shelf.faults c.read_source.new.shelf in
    no_source objects held (claim (asks_of a.asks) a.project.now a.report.now) usual.result before after c.in-Err.status usual.ensures.value
    (subst (λ w. AreRefused (known objects) usual.result.cycles held w before after c.in-Err.status) c.in_ok-word.ensures c.in-Err.ensures.answer)
