use Rattle.std.proofs.Common.{subst}
use Rattle.mas_top_files.specs.Sources.{ProjectRefused, UnlessMemory}
use Rattle.mas_top_sites.proofs.Described.{second_none}
use Rattle.mas_top_sites.proofs.reading.projects_of.Goals as goal

pub returns-in-Err-clause-answer : goal.returns-in-Err-clause-answer
returns-in-Err-clause-answer g c =
    let before = g.S.Shelf.faults c.args.shelf.now in
    let middle = g.S.Shelf.faults c.project_of.new.shelf in
    let after = g.S.Shelf.faults c.project_of-2.new.shelf in
    second_none (g.S.Shelf.holds c.args.shelf.now) c.args.first.now c.args.second.now c.in_ok-one.one before middle after c.in-Err.status
    c.in_ok-one.ensures.later c.in_ok-one.ensures.answer
    (subst (λ held. UnlessMemory (ProjectRefused held c.args.second.now middle after) c.in-Err.status) c.in_ok-one.ensures.same c.in-Err.ensures.answer)
