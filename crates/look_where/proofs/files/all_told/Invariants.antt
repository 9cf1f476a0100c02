use Rattle.std.proofs.Common.{◌≡◌, ◌≤◌, length}
use Rattle.look_where.proofs.Telling.{Left}
use Rattle.look_where.proofs.files.all_told.Given as goal

abbrev pub invariant-wanted : goal.invariant-wanted
invariant-wanted g l = record {
  same : g.S.Shelf.holds l.shelf ≡ g.S.Shelf.holds l.fn.shelf;
  later : g.S.Shelf.faults l.fn.shelf ≤ g.S.Shelf.faults l.shelf;
  left : Left l.fn.known (g.S.Shelf.holds l.fn.shelf) (g.S.Shelf.faults l.fn.shelf) (g.S.Shelf.faults l.shelf) l.rest l.fn.wanted l.files;
}

abbrev pub decreases-wanted : goal.decreases-wanted
decreases-wanted g l = length l.rest
