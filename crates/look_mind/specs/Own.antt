-- What changes in the minds of agents along a run of a source, of which bytes are the report.
use Rattle.std.specs.Prelude.{ℕ, ◌≡◌, min, List, length, take, Option, None, Some}
use Rattle.asl_term.specs.declared.syntax.Filed.{Filed}
use Rattle.asl_cycle.specs.Agent.{agent_kind}
use Rattle.mas_world.specs.Worlds.{Used}
use Rattle.mas_report.specs.Limits.{defaults}
use Rattle.mas_top_files.specs.declared.sources.Source.{Source}
use Rattle.mas_top_files.specs.Known.{known}
use Rattle.mas_top_files.specs.Sources.{HasSource}
use Rattle.mas_top_opening.specs.Opening.{setup, opening}
use Rattle.mas_top_check.specs.Checking.{IsOwn}
use Rattle.look_mind.specs.Along.{AreChanges}
use Rattle.look_mind.specs.Parts.{agent_texts}
use Rattle.look_mind.specs.declared.changes.MindChanges.{MindChanges}

-- of so many turns at most it is told
abbrev pub most_turns : ℕ
most_turns = 2000

-- the bytes are the report of a run of this source; of its turns, and of the first of them the changes
pub record AreOwnChanges (objects : List Used) (source : Source) (bytes : List ℕ) (c : MindChanges) : Type 0 where
  pub own : IsOwn objects source bytes
  pub turns : c.turns ≡ own.told.turns
  pub changes : AreChanges agent_kind agent_texts (opening (setup own.told.options objects) source)
      (take (min most_turns (length own.told.turns)) own.told.turns) c.changes

abbrev pub IsTold : List Used → Source → List ℕ → Option MindChanges → Type 0
IsTold objects source bytes None = IsOwn objects source bytes → ⊥
IsTold objects source bytes (Some c) = AreOwnChanges objects source bytes c

-- the same of the project of this word: the files describe a source, whose agents make at most so many cycles as a run that names none
pub record IsToldIn (objects : List Used) (held : Option (List Filed)) (word bytes : List ℕ) (r : Option MindChanges) : Type 0 where
  pub source : Source
  pub has : HasSource (known objects) defaults.cycles held word source
  pub told_is : IsTold objects source bytes r
