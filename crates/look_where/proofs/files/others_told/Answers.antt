use Rattle.std.proofs.Common.{List, Option, subst}
use Rattle.asl_term.specs.declared.syntax.Filed.{Filed}
use Rattle.look_where.specs.Files.{AreTold}
use Rattle.look_where.proofs.Telling.{are_others}
use Rattle.look_where.proofs.files.others_told.Goals as goal

-- the shelf holds what it held when the project was read
pub returns-in-Ok-all_told-clause-answer : goal.returns-in-Ok-all_told-clause-answer
returns-in-Ok-all_told-clause-answer g c =
    are_others c.args.known.now (g.S.Shelf.holds c.args.shelf.now) c.args.word.now (g.S.Shelf.faults c.args.shelf.now) (g.S.Shelf.faults c.wanted_files.new.shelf)
    (g.S.Shelf.faults c.all_told.new.shelf) c.in-Ok.wanted c.in-Ok-all_told.files c.wanted_files.ensures.later c.all_told.ensures.later c.in-Ok.ensures.answer
    (subst (λ (held : Option (List Filed)). AreTold c.args.known.now held (g.S.Shelf.faults c.wanted_files.new.shelf) (g.S.Shelf.faults c.all_told.new.shelf)
    c.in-Ok.wanted c.in-Ok-all_told.files) c.wanted_files.ensures.same c.in-Ok-all_told.ensures.answer)
