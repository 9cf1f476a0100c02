use Rattle.std.proofs.Common.{length}
use Rattle.mas_top_files.specs.Sources.{texts_of}
use Rattle.mas_top_opening.specs.Opening.{minds_from}
use Rattle.mas_top_opening.proofs.Opened.{RolesLeft}
use Rattle.mas_top_opening.proofs.minds.open_minds.Given as goal

abbrev pub invariant-roles : goal.invariant-roles
invariant-roles l = RolesLeft l.o l.names l.rest l.minds (minds_from l.o l.names 1 (texts_of l.roles))

abbrev pub decreases-roles : goal.decreases-roles
decreases-roles l = length l.rest
