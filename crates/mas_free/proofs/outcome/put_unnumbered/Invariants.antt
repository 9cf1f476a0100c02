use Rattle.std.proofs.Common.{◌≡◌, ◌++◌, length}
use Rattle.mas_free.specs.Lines.{unnumbered_from, unnumbered}
use Rattle.mas_free.proofs.outcome.put_unnumbered.Given as goal

abbrev pub invariant-bytes : goal.invariant-bytes
invariant-bytes l = l.out ++ unnumbered_from l.goes l.rest ≡ l.fn.out ++ unnumbered l.text

abbrev pub decreases-bytes : goal.decreases-bytes
decreases-bytes l = length l.rest
