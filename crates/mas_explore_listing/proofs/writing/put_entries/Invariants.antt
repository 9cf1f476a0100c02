use Rattle.std.proofs.Common.{◌≡◌, ◌++◌, ◌+◌, length}
use Rattle.mas_explore_listing.specs.Text.{entries_text}
use Rattle.mas_explore_listing.proofs.writing.put_entries.Given as goal

abbrev pub invariant-entries : goal.invariant-entries
invariant-entries l = record {
  count : l.n + length l.rest ≡ length l.list + 1;
  text : l.out ++ entries_text l.o l.n l.rest ≡ l.fn.out ++ entries_text l.o 1 l.list;
}

abbrev pub decreases-entries : goal.decreases-entries
decreases-entries l = length l.rest
