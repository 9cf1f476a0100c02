use Rattle.std.proofs.Common.{◌≡◌, ◌++◌, length}
use Rattle.look_pieces.proofs.clause.copy_toks.Given as goal

abbrev pub invariant-toks : goal.invariant-toks
invariant-toks l = l.all ++ l.rest ≡ l.toks

abbrev pub decreases-toks : goal.decreases-toks
decreases-toks l = length l.rest
