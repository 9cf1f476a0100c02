-- Behind its last entry a list has none.
use Rattle.std.proofs.Common.{ℕ, ◌≡◌, ◌≤◌, ◌+◌, List, [], length, slice_get, ap}
use Rattle.std.proofs.lemmas.Option.{slice_get_past}
use Rattle.mas_report.specs.declared.options.Options.{Options}
use Rattle.mas_explore.specs.declared.listing.Shown.{Shown}
use Rattle.mas_explore_listing.specs.Text.{entry_or_none}

pub none_past : (o : Options) (list : List Shown) (place : ℕ) → length list ≤ place → entry_or_none o (place + 1) (slice_get list place) ≡ []
none_past o list place l = ap (entry_or_none o (place + 1)) (slice_get_past list place l)
