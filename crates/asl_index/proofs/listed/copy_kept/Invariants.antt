use Rattle.std.proofs.Common.{◌≡◌, ◌++◌, drop}
use Rattle.asl_index_tables.specs.Slots.{kept}
use Rattle.asl_index.proofs.listed.copy_kept.Given as goal

abbrev pub invariant-slots : goal.invariant-slots
invariant-slots l = l.all ++ kept (drop l.k l.store) ≡ kept l.store
