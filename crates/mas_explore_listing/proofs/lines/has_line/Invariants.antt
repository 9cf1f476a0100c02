use Rattle.std.proofs.Common.{◌≡◌, length}
use Rattle.mas_explore_listing.specs.Questions.{has_line_from, has_line}
use Rattle.mas_explore_listing.proofs.lines.has_line.Given as goal

abbrev pub invariant-bytes : goal.invariant-bytes
invariant-bytes l = has_line_from l.line l.front l.rest ≡ has_line l.line l.text

abbrev pub decreases-bytes : goal.decreases-bytes
decreases-bytes l = length l.rest
