use Rattle.std.proofs.Common.{◌≡◌, ◌≤◌, length}
use Rattle.mas_top_files.proofs.Parts.{ReadUpTo}
use Rattle.mas_top_files.proofs.sources.roles_of.Given as goal

abbrev pub invariant-lines : goal.invariant-lines
invariant-lines g l = record {
  same : g.S.Shelf.holds l.shelf ≡ g.S.Shelf.holds l.fn.shelf;
  later : g.S.Shelf.faults l.fn.shelf ≤ g.S.Shelf.faults l.shelf;
  read : ReadUpTo (g.S.Shelf.holds l.fn.shelf) l.lines l.rest l.roles;
}

abbrev pub decreases-lines : goal.decreases-lines
decreases-lines g l = length l.rest
