use Rattle.std.proofs.Common.{subst}
use Rattle.mas_top_opening.specs.Opening.{objects_of}
use Rattle.mas_top_files.specs.Known.{known}
use Rattle.mas_top_files.specs.Sources.{PartRefused, UnlessMemory}
use Rattle.mas_top_sites.proofs.Described.{second_not}
use Rattle.mas_top_sites.proofs.reading.bring_both.Goals as goal

pub returns-clause-answer : goal.returns-clause-answer
returns-clause-answer g c =
    let objects = objects_of g.A.Artifact.named g.A.Artifact.table g.A.Artifact.facts in
    let p = c.args.projects.now in
    let before = g.S.Shelf.faults c.args.shelf.now in
    let middle = g.S.Shelf.faults c.bring.new.shelf in
    let after = g.S.Shelf.faults c.bring-2.new.shelf in
    second_not (objects c.args.artifacts.items) (g.S.Shelf.holds c.args.shelf.now) p.one p.two c.in_ok-one.one.source c.in_ok-one.one.used
    (objects c.bring.new.left.items) before middle after c.in-Err.status c.in_ok-one.ensures.later c.in_ok-one.ensures.answer
    (subst (λ held. UnlessMemory (PartRefused (known (objects c.bring.new.left.items)) p.two held middle after) c.in-Err.status)
    c.in_ok-one.ensures.same c.in-Err.ensures.answer)
