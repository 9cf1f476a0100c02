use Rattle.std.proofs.Common.{◌≡◌, length}
use Rattle.look_mind.specs.Entries.{below_head}
use Rattle.look_mind.proofs.entries.below_head.Given as goal

abbrev pub invariant-bytes : goal.invariant-bytes
invariant-bytes l = below_head l.rest ≡ below_head l.text

abbrev pub decreases-bytes : goal.decreases-bytes
decreases-bytes l = length l.rest
