use Rattle.std.proofs.Common.{◌≡◌, ◌+◌, length}
use Rattle.mas_explore_listing.specs.Questions.{first_from}
use Rattle.mas_explore_listing.proofs.answers.first_against.Given as goal

abbrev pub invariant-entries : goal.invariant-entries
invariant-entries l = record {
  count : l.place + length l.rest ≡ length l.list;
  same : first_from l.q l.place l.rest ≡ first_from l.q 0 l.list;
}

abbrev pub decreases-entries : goal.decreases-entries
decreases-entries l = length l.rest
