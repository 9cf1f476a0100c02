use Rattle.std.proofs.Common.{arith, rules}
use Rattle.std.proofs.lemmas.Grind.{common_steps}
use Rattle.look_where.proofs.Telling.{ends}
use Rattle.look_where.proofs.files.all_told.Goals as goal

-- no wanted file is left
pub returns-clause-answer : goal.returns-clause-answer
returns-clause-answer g c =
    ends c.args.known.now (g.S.Shelf.holds c.args.shelf.now) (g.S.Shelf.faults c.args.shelf.now) (g.S.Shelf.faults c.wanted.shelf) c.wanted.rest.now c.args.wanted.now c.wanted.files
    c.wanted.invariant.left (first_of (search rules, grind (arith, common_steps)))
