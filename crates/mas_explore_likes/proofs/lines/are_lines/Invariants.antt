use Rattle.std.proofs.Common.{◌≡◌, length}
use Rattle.mas_free.specs.Lines.{front_after, are_lines}
use Rattle.mas_explore_likes.proofs.lines.are_lines.Given as goal

abbrev pub invariant-bytes : goal.invariant-bytes
invariant-bytes l = front_after l.front l.rest ≡ are_lines l.text

abbrev pub decreases-bytes : goal.decreases-bytes
decreases-bytes l = length l.rest
