use Rattle.std.proofs.Common.{◌≡◌, length}
use Rattle.env_file.specs.Statements.{has_annots}
use Rattle.env_file.proofs.marks.has_annots.Given as goal

abbrev pub invariant-tokens : goal.invariant-tokens
invariant-tokens l = has_annots l.rest ≡ has_annots l.all

abbrev pub decreases-tokens : goal.decreases-tokens
decreases-tokens l = length l.rest
