use Rattle.std.proofs.Common.{subst}
use Rattle.mas_top_opening.specs.Opening.{objects_of}
use Rattle.mas_top_files.specs.Sources.{UnlessMemory}
use Rattle.mas_top_sites.specs.Pairs.{wish, PartsRefused}
use Rattle.mas_top_sites.proofs.Described.{within_both, together_not, parts_not}
use Rattle.mas_top_sites.proofs.reading.read_pair.Goals as goal

pub agent_names-requires : goal.agent_names-requires
agent_names-requires g c =
    let p = c.in_ok-projects.projects in
    (within_both (g.S.Shelf.holds c.args.shelf.now) c.args.first.now c.args.second.now p.one p.two c.in_ok-projects.ensures.answer).0

pub agent_names-requires-2 : goal.agent_names-requires-2
agent_names-requires-2 g c =
    let p = c.in_ok-projects.projects in
    (within_both (g.S.Shelf.holds c.args.shelf.now) c.args.first.now c.args.second.now p.one p.two c.in_ok-projects.ensures.answer).1

pub returns-in-Err-clause-answer : goal.returns-in-Err-clause-answer
returns-in-Err-clause-answer g c =
    let p = c.in_ok-projects.projects in
    together_not (objects_of g.A.Artifact.named g.A.Artifact.table g.A.Artifact.facts c.args.artifacts.items) (g.S.Shelf.holds c.args.shelf.now)
    (wish c.args.first.now c.args.second.now c.args.cycles) p.one p.two c.in_ok-one.one c.in_ok-two.two
    (g.S.Shelf.faults c.args.shelf.now) (g.S.Shelf.faults c.projects_of.new.shelf) c.in-Err.status c.in_ok-projects.ensures.answer
    c.in_ok-one.ensures c.in_ok-two.ensures c.in-Err.ensures

pub returns-clause-answer : goal.returns-clause-answer
returns-clause-answer g c =
    let p = c.in_ok-projects.projects in
    let objects = objects_of g.A.Artifact.named g.A.Artifact.table g.A.Artifact.facts c.args.artifacts.items in
    let before = g.S.Shelf.faults c.projects_of.new.shelf in
    let after = g.S.Shelf.faults c.bring_both.new.shelf in
    parts_not objects (g.S.Shelf.holds c.args.shelf.now)
    (wish c.args.first.now c.args.second.now c.args.cycles) p.one p.two c.in_ok-one.one c.in_ok-two.two
    (g.S.Shelf.faults c.args.shelf.now) before after c.in-Err-bring_both.status c.in_ok-projects.ensures.later c.in_ok-projects.ensures.answer
    c.in_ok-one.ensures c.in_ok-two.ensures c.in-Ok.ensures
    (subst (λ held. UnlessMemory (PartsRefused objects held p.one p.two before after) c.in-Err-bring_both.status) c.in_ok-projects.ensures.same c.in-Err-bring_both.ensures.answer)
