use Rattle.std.proofs.Common.{◌≡◌, length}
use Rattle.mas_top_files.specs.Projects.{folder}
use Rattle.mas_top_files.proofs.folder.folder.Given as goal

abbrev pub invariant-bytes : goal.invariant-bytes
invariant-bytes l = folder l.rest ≡ folder l.word

abbrev pub decreases-bytes : goal.decreases-bytes
decreases-bytes l = length l.rest
