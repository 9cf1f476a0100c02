use Rattle.std.proofs.Common.{subst}
use Rattle.mas_top_files.specs.Sources.{PartRefused, UnlessMemory}
use Rattle.mas_top_files.proofs.Stands.{first_part}
use Rattle.mas_top_files.proofs.sources.sources.Goals as goal

-- src/sources.rt:156:1
pub returns-clause-answer : goal.returns-clause-answer
returns-clause-answer g c =
    first_part c.args.known.now c.args.cycles (g.S.Shelf.holds c.args.shelf.now) c.args.word.now c.in_ok-p.p
    (g.S.Shelf.faults c.args.shelf.now) (g.S.Shelf.faults c.project_of.new.shelf) (g.S.Shelf.faults c.described.new.shelf) c.in-Err.status
    c.in_ok-p.ensures.answer c.in_default.ensures c.in_ok-p.ensures.later
    (subst (λ held. UnlessMemory (PartRefused c.args.known.now c.in_ok-p.p held (g.S.Shelf.faults c.project_of.new.shelf) (g.S.Shelf.faults c.described.new.shelf)) c.in-Err.status)
    c.in_ok-p.ensures.same c.in-Err.ensures.answer)
