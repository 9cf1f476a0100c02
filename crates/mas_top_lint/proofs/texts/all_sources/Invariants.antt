use Rattle.std.proofs.Common.{◌≡◌, ◌++◌, length}
use Rattle.mas_top_files.specs.Sources.{texts_of}
use Rattle.mas_top_lint.proofs.texts.all_sources.Given as goal

abbrev pub invariant-roles : goal.invariant-roles
invariant-roles l = l.texts ++ texts_of l.rest ≡ texts_of l.roles

abbrev pub decreases-roles : goal.decreases-roles
decreases-roles l = length l.rest
