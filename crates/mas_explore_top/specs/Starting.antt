-- The start of the runs of a project.
use Rattle.std.specs.Prelude.{ℕ, ◌≡◌, List, Option}
use Rattle.asl_term.specs.declared.syntax.Filed.{Filed}
use Rattle.asl_cycle.specs.Agent.{Mindset}
use Rattle.mas_world.specs.Worlds.{Used}
use Rattle.mas_report.specs.declared.options.Options.{Options}
use Rattle.mas_top_files.specs.declared.sources.Source.{Source}
use Rattle.mas_top_files.specs.Known.{known}
use Rattle.mas_top_files.specs.Sources.{HasSource}
use Rattle.mas_top_opening.specs.Opening.{setup}
use Rattle.mas_free.specs.Covers.{Start}
use Rattle.mas_explore_files.specs.Starts.{start_of}

-- the word stands for a project whose files describe a source, with which all its runs begin so
pub record IsStartIn (objects : List Used) (o : Options) (held : Option (List Filed)) (word : List ℕ) (s : Start Mindset) : Type 0 where
  pub source : Source
  pub has : HasSource (known objects) o.cycles held word source
  pub is : s ≡ start_of (setup o objects) source
