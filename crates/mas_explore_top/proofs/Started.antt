-- The start of the runs of a project that was read.
use Rattle.std.proofs.Common.{ℕ, ◌≡◌, List, Option, sym, subst}
use Rattle.asl_term.specs.declared.syntax.Filed.{Filed}
use Rattle.asl_cycle.specs.Agent.{Mindset}
use Rattle.mas_world.specs.Worlds.{Used}
use Rattle.mas_report.specs.declared.options.Options.{Options}
use Rattle.mas_top_files.specs.declared.sources.Source.{Source}
use Rattle.mas_top_files.specs.Known.{known}
use Rattle.mas_top_files.specs.Sources.{HasSource}
use Rattle.mas_top_opening.specs.Opening.{setup}
use Rattle.mas_free.specs.Covers.{Start}
use Rattle.mas_explore_files.specs.Starts.{start_of}
use Rattle.mas_explore_top.specs.Starting.{IsStartIn}

pub is_start_in : (objects : List Used) (o : Options) (held : Option (List Filed)) (word : List ℕ) (source : Source) (s : Start Mindset) →
    HasSource (known objects) o.cycles held word source → s ≡ start_of (setup o objects) source → IsStartIn objects o held word s
is_start_in objects o held word source s h e = record { source = source; has = h; is = e }
