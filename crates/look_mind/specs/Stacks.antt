-- The texts of the agents of a source before the marked turns of a run, of which bytes are the report.
use Rattle.std.specs.Prelude.{ℕ, Bool, List, Option, None, Some}
use Rattle.asl_term.specs.declared.syntax.Filed.{Filed}
use Rattle.asl_cycle.specs.Agent.{agent_kind}
use Rattle.mas_world.specs.Worlds.{Used}
use Rattle.mas_report.specs.Limits.{defaults}
use Rattle.mas_top_files.specs.declared.sources.Source.{Source}
use Rattle.mas_top_files.specs.Known.{known}
use Rattle.mas_top_files.specs.Sources.{HasSource}
use Rattle.mas_top_opening.specs.Opening.{setup, opening}
use Rattle.mas_top_check.specs.Checking.{IsOwn}
use Rattle.look_run.specs.Before.{AreBefore}
use Rattle.look_mind.specs.Texts.{agent_texts}

-- the bytes are the report of a run of this source, and these are the texts before the marked ones of its turns
pub record AreStacks (objects : List Used) (source : Source) (bytes : List ℕ) (marks : List Bool) (cs : List (List (List ℕ))) : Type 0 where
  pub own : IsOwn objects source bytes
  pub texts : AreBefore agent_kind agent_texts (opening (setup own.told.options objects) source) own.told.turns marks cs

abbrev pub IsTold : List Used → Source → List ℕ → List Bool → Option (List (List (List ℕ))) → Type 0
IsTold objects source bytes marks None = IsOwn objects source bytes → ⊥
IsTold objects source bytes marks (Some cs) = AreStacks objects source bytes marks cs

-- the same of the project of this word: the files describe a source, whose agents make at most so many cycles as a run that names none
pub record IsToldIn (objects : List Used) (held : Option (List Filed)) (word bytes : List ℕ) (marks : List Bool)
    (r : Option (List (List (List ℕ)))) : Type 0 where
  pub source : Source
  pub has : HasSource (known objects) defaults.cycles held word source
  pub told_is : IsTold objects source bytes marks r
