-- What all runs of a source begin with.
use Rattle.std.specs.Prelude.{ℕ, ◌≡◌, false, List}
use Rattle.asl_cycle.specs.Agent.{Mindset}
use Rattle.asl_cycle.specs.Trace.{shows_rules}
use Rattle.mas_report.specs.Limits.{IsWithin}
use Rattle.mas_top_files.specs.declared.sources.Source.{Source}
use Rattle.mas_top_opening.specs.Fits.{CanRun}
use Rattle.mas_top_opening.specs.Opening.{Setup, opening_world, opening_minds}
use Rattle.mas_free.specs.Covers.{Start}

-- its names, its world and its agents; the limits of cycles and lead aside
abbrev pub start_of : Setup → Source → Start Mindset
start_of u source = record { names = source.names; world = opening_world u.objects source.world; minds = opening_minds u.options source }

-- it can be run, at a level that does not show the names of rows, and the agents share its names
pub record IsReady (u : Setup) (source : Source) (shared : List (List ℕ)) : Type 0 where
  pub can : CanRun u.objects source
  pub within : IsWithin u.options
  pub plain : shows_rules u.options.level ≡ false
  pub shared_is : shared ≡ source.names
