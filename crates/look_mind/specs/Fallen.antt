-- The failures of the agents of a source along the turns that bytes tell, as a run of level rules shows them.
use Rattle.std.specs.Prelude.{ℕ, ◌≡◌, List, Option, None, Some}
use Rattle.asl_term.specs.declared.syntax.Filed.{Filed}
use Rattle.asl_cycle.specs.Agent.{Mindset, agent_kind}
use Rattle.mas_mind.specs.declared.mind.Level.TheVariants.{Rules}
use Rattle.mas_world.specs.Worlds.{Used}
use Rattle.mas_core.specs.Platform.{Platform, run}
use Rattle.mas_report.specs.declared.options.Options.{Options}
use Rattle.mas_report.specs.declared.reading.Told.{Told}
use Rattle.mas_report.specs.Limits.{defaults}
use Rattle.mas_report.specs.Reading.{Shows}
use Rattle.mas_top_files.specs.declared.sources.Source.{Source}
use Rattle.mas_top_files.specs.Known.{known}
use Rattle.mas_top_files.specs.Sources.{HasSource}
use Rattle.mas_top_opening.specs.Opening.{setup, opening}
use Rattle.mas_top_check.specs.Checking.{IsAllowed}
use Rattle.look_run.specs.Falling.{HaveFallen}
use Rattle.look_mind.specs.declared.fallen.RunFalls.{RunFalls}

-- the same options, with which each row is shown
abbrev pub loud : Options → Options
loud o = record o { level = Rules }

abbrev pub loud_opening : List Used → Source → Options → Platform Mindset
loud_opening objects source o = opening (setup (loud o) objects) source

-- these are the failures of the agents of this source, each with its row, along these turns with these options
pub record AreFalls (objects : List Used) (source : Source) (told : Told) (r : RunFalls) : Type 0 where
  pub allowed : IsAllowed source told.options
  pub options : r.options ≡ told.options
  pub turns : r.turns ≡ told.turns
  pub names : r.names ≡ source.names
  pub falls : HaveFallen agent_kind (loud_opening objects source told.options) told.turns r.falls

-- a run of the source may not have these options, or one of the turns cannot be made
abbrev pub IsFallenBy : List Used → Source → Told → Option RunFalls → Type 0
IsFallenBy objects source told None = IsAllowed source told.options → run agent_kind (loud_opening objects source told.options) told.turns ≡ None
IsFallenBy objects source told (Some r) = AreFalls objects source told r

-- the same of what bytes tell
pub record TellFalls (objects : List Used) (source : Source) (bytes : List ℕ) (r : RunFalls) : Type 0 where
  pub told : Told
  pub shows : Shows bytes told
  pub falls : AreFalls objects source told r

abbrev pub IsFallen : List Used → Source → List ℕ → Option RunFalls → Type 0
IsFallen objects source bytes None = (told : Told) → Shows bytes told → IsFallenBy objects source told None
IsFallen objects source bytes (Some r) = TellFalls objects source bytes r

-- the same of the project of this word: the files describe a source, whose agents make at most so many cycles as a run that names none
pub record IsFallenIn (objects : List Used) (held : Option (List Filed)) (word bytes : List ℕ) (r : Option RunFalls) : Type 0 where
  pub source : Source
  pub has : HasSource (known objects) defaults.cycles held word source
  pub fallen : IsFallen objects source bytes r
