-- What lint's yes says of the runs of a project.
use Rattle.std.specs.Prelude.{◌≡◌, ℕ, List, Option, Some}
use Rattle.std.specs.List.{AllByRecursion}
use Rattle.asl_term.specs.declared.syntax.Filed.{Filed}
use Rattle.asl_lint.specs.Lints.{verdict}
use Rattle.asl_lint.specs.declared.lint.Verdict.TheVariants.{Yes}
use Rattle.mas_top_laws.specs.Runs.{Along, NeverNow}
use Rattle.mas_world.specs.Facts.{AreFacts}
use Rattle.mas_world.specs.Worlds.{Used}
use Rattle.mas_io.specs.Told.{Told}
use Rattle.mas_top_files.specs.declared.sources.Source.{Source}
use Rattle.mas_top_status.specs.declared.status.Status.TheVariants.{Ok}
use Rattle.mas_top_files.specs.Known.{known}
use Rattle.mas_top_files.specs.Sources.{HasSource, texts_of}
use Rattle.mas_top_lint.specs.Linting.{usual_cycles, LintCaused}
use Rattle.mas_top_opening.specs.Opening.{Setup, opening}

-- what each artifact shows has no variables and no arithmetic, and nothing stands twice
abbrev pub ShowFacts : List Used → Type 0
ShowFacts = AllByRecursion (λ u. AreFacts u.segment.facts)

-- no run of the source has an event of a goal without a relevant plan, whatever the order of its turns
abbrev pub NeverRuns : Setup → Source → Type 0
NeverRuns u source = (schedule : List ℕ) → Along NeverNow (opening u source) schedule

-- so it is of the source that files describe where the verdict on it is yes, with any options
abbrev pub YesMeansNever : Type 0
YesMeansNever =
    (u : Setup) (cycles : ℕ) (held : Option (List Filed)) (word : List ℕ) (source : Source) → ShowFacts u.objects →
    HasSource (known u.objects) cycles held word source → verdict source.names (texts_of source.roles) ≡ Yes → NeverRuns u source

-- and where `lint` ended with Ok, of a shelf that tells its files
abbrev pub OkMeansNever : Type 0
OkMeansNever =
    (u : Setup) (word : List ℕ) (before after : Told) (files : List Filed) (source : Source) → ShowFacts u.objects → before.held ≡ Some files →
    HasSource (known u.objects) usual_cycles (Some files) word source → LintCaused (known u.objects) word before after Ok → NeverRuns u source
