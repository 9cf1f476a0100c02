use Rattle.mas_top_opening.specs.Opening.{objects_of, setup}
use Rattle.mas_top_sites.specs.Caused.{sites_of}
use Rattle.mas_top_sites.proofs.Answered.{can_meet, answered_as}
use Rattle.mas_top_sites.proofs.printing.run_files.Goals as goal

pub run_sides-requires-clause-can : goal.run_sides-requires-clause-can
run_sides-requires-clause-can g c κs within =
    let objects = objects_of g.A.Artifact.named g.A.Artifact.table g.A.Artifact.facts c.args.artifacts.items in
    can_meet objects (g.S.Shelf.holds c.args.shelf.now) _ _ c.in_ok-sides.ensures.answer.has

pub returns-clause-answer : goal.returns-clause-answer
returns-clause-answer g c =
    let objects = objects_of g.A.Artifact.named g.A.Artifact.table g.A.Artifact.facts c.args.artifacts.items in
    answered_as (setup c.args.o.now objects) (g.S.Shelf.holds c.args.shelf.now) (sites_of c.args.sites.now) c.in_ok-first.first c.in_ok-second.second _ _ _ _ _
    c.in_ok-first.ensures c.in_ok-second.ensures c.in_ok-sides.ensures.answer c.in_ok-run_sides.ensures
