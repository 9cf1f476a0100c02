use Rattle.std.proofs.Common.{rules, arith, ◌≡◌, refl}
use Rattle.look_where.specs.declared.files.FileKind.TheVariants.{Project}
use Rattle.look_where.specs.Others.{TellsProject}
use Rattle.look_where.proofs.Telling.{project_files}
use Rattle.look_where.proofs.files.project_files.Goals as goal

pub returns-in-Ok-with_first-clause-answer : goal.returns-in-Ok-with_first-clause-answer
returns-in-Ok-with_first-clause-answer g c =
    let kind : c.in_ok-first.first.kind ≡ Project = search rules in
    let name : c.in_ok-first.first.name ≡ c.args.word.now = search rules in
    let told : TellsProject c.args.bytes.now c.in_ok-first.first.findings = search rules in
    project_files c.args.known.now (g.S.Shelf.holds c.args.shelf.now) c.args.word.now (g.S.Shelf.faults c.args.shelf.now)
    (g.S.Shelf.faults c.args.shelf.now) (g.S.Shelf.faults c.others_told.new.shelf) c.args.bytes.now c.in_ok-first.first.findings c.in_ok-first.first c.in-Ok.files
    c.in-Ok-with_first.all (omega arith) c.requires.word c.requires.held told kind name refl c.in-Ok.ensures.answer
    c.in-Ok-with_first.ensures
