use Rattle.std.proofs.Common.{sym, ◌∙◌}
use Rattle.look_where.specs.Files.{all_wanted}
use Rattle.look_where.proofs.Telling.{refused_wanted}
use Rattle.look_where.proofs.files.wanted_files.Goals as goal

pub returns-in-Ok-wanted_in-clause-answer : goal.returns-in-Ok-wanted_in-clause-answer
returns-in-Ok-wanted_in-clause-answer g c = all_wanted c.in-Ok.p c.in-Ok.ensures.answer c.in-Ok-wanted_in.ensures

pub returns-in-Ok-wanted_by-clause-answer : goal.returns-in-Ok-wanted_by-clause-answer
returns-in-Ok-wanted_by-clause-answer g c =
    refused_wanted (g.S.Shelf.holds c.args.shelf.now) c.args.word.now (g.S.Shelf.faults c.args.shelf.now) (g.S.Shelf.faults c.project_of.new.shelf) c.in-Err.why
    c.in-Ok-wanted_by.wanted (sym c.is_lack-lack.ensures ∙ c.if-lack.false) c.in-Err.ensures.answer
