use Rattle.std.proofs.Common.{◌≡◌, true, length, slice_get}
use Rattle.std.specs.List.{list_all}
use Rattle.mas_top_files.specs.Sources.{texts_of}
use Rattle.mas_top_opening.specs.Fits.{is_ground_role}
use Rattle.mas_explore_files.proofs.agents.text_at.Given as goal

abbrev pub invariant-roles : goal.invariant-roles
invariant-roles l = record {
  same : slice_get (texts_of l.rest) l.left ≡ slice_get (texts_of l.roles) l.place;
  ground : list_all is_ground_role l.rest ≡ true;
}

abbrev pub decreases-roles : goal.decreases-roles
decreases-roles l = length l.rest
