use Rattle.std.proofs.Common.{◌≡◌, ◌≤◌}
use Rattle.look_hints.proofs.sources.read_project.Given as goal

abbrev pub invariant-files : goal.invariant-files
invariant-files g l = record {
  same : g.S.Shelf.holds l.shelf ≡ g.S.Shelf.holds l.fn.shelf;
  later : g.S.Shelf.faults l.fn.shelf ≤ g.S.Shelf.faults l.shelf;
}
