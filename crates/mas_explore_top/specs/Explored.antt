-- What is told of the runs of a project.
use Rattle.std.specs.Prelude.{List, Option}
use Rattle.asl_term.specs.declared.syntax.Filed.{Filed}
use Rattle.asl_cycle.specs.Agent.{Mindset, agent_kind}
use Rattle.mas_mind.specs.declared.mind.Level.{Level}
use Rattle.mas_mind.specs.declared.mind.Level.TheVariants as level
use Rattle.mas_world.specs.Worlds.{Used}
use Rattle.mas_report.specs.declared.options.Options.{Options}
use Rattle.mas_report.specs.Limits.{defaults}
use Rattle.mas_free.specs.declared.view.View.{View}
use Rattle.mas_free.specs.declared.view.View.TheVariants as view
use Rattle.mas_free.specs.Covers.{Start}
use Rattle.mas_explore_listing.specs.declared.telling.Told.{Told}
use Rattle.mas_explore_listing.specs.Told.{IsTold}
use Rattle.mas_explore_top.specs.declared.detail.Detail.{Detail}
use Rattle.mas_explore_top.specs.declared.detail.Detail.TheVariants.{Ends, Say, Acts}
use Rattle.mas_explore_top.specs.Asked.{Exploring}
use Rattle.mas_explore_top.specs.Starting.{IsStartIn}

-- whether an outcome tells the lines of an agent
abbrev pub view_of : Detail → View
view_of Ends = view.Ends
view_of other = view.Lines

-- the level at which agents are opened
abbrev pub level_of : Detail → Level
level_of Acts = level.Acts
level_of other = level.Say

-- the options of all runs, but for the limits of cycles and lead, which are each run's own
abbrev pub options_of : Exploring → Options
options_of e = record { cycles = defaults.cycles; lead = defaults.lead; depth = e.depth; tries = e.tries; level = level_of e.detail }

-- the files describe a project, and this is told of all its runs
pub record IsToldIn (objects : List Used) (held : Option (List Filed)) (e : Exploring) (t : Told) : Type 0 where
  pub start : Start Mindset
  pub begins : IsStartIn objects (options_of e) held e.project start
  pub told : IsTold agent_kind (view_of e.detail) start e.states (options_of e) e.claimed t
