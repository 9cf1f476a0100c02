-- A look at the run of a source, of which bytes are the report.
use Rattle.std.specs.Prelude.{ℕ, ◌≡◌, ◌≤◌, ◌<◌, List, length, Option, None, Some}
use Rattle.asl_term.specs.Names.{place_of}
use Rattle.asl_term.specs.declared.syntax.Filed.{Filed}
use Rattle.asl_cycle.specs.Agent.{agent_kind}
use Rattle.mas_world.specs.Worlds.{Used}
use Rattle.mas_report.specs.declared.reading.Told.{Told}
use Rattle.mas_report.specs.Limits.{defaults}
use Rattle.mas_report.specs.Reading.{Shows}
use Rattle.mas_top_files.specs.declared.sources.Source.{Source}
use Rattle.mas_top_files.specs.Known.{known}
use Rattle.mas_top_files.specs.Sources.{HasSource}
use Rattle.mas_top_opening.specs.Opening.{setup, opening}
use Rattle.mas_top_check.specs.Checking.{IsOwn}
use Rattle.look_run.specs.Looks.{IsView}
use Rattle.look_mind.specs.Parts.{mind_parts}
use Rattle.look_mind.specs.declared.look.Look.{Look}
use Rattle.look_mind.specs.declared.look.Look.TheVariants.{Shown, Foreign, NoAgent, NoTurn}

-- after how many turns of so many: without a number after all
abbrev pub turn_of : Option ℕ → ℕ → ℕ
turn_of None turns = turns
turn_of (Some turn) turns = turn

-- the bytes are the report of a run of this source, and it is the text of the agent of this name after that turn
pub record IsShown (objects : List Used) (source : Source) (bytes name : List ℕ) (turn : Option ℕ) (w : List ℕ) : Type 0 where
  pub own : IsOwn objects source bytes
  pub number : ℕ
  pub named : place_of source.names name ≡ Some number
  pub within : turn_of turn (length own.told.turns) ≤ length own.told.turns
  pub view : IsView agent_kind mind_parts (opening (setup own.told.options objects) source) own.told.turns name number
      (turn_of turn (length own.told.turns)) w

-- the bytes tell of so many turns, and more are asked for
pub record HasNoTurn (bytes : List ℕ) (turn : Option ℕ) (turns : ℕ) : Type 0 where
  pub told : Told
  pub shows : Shows bytes told
  pub number : turns ≡ length told.turns
  pub past : turns < turn_of turn turns

abbrev pub IsLook : List Used → Source → List ℕ → List ℕ → Option ℕ → Look → Type 0
IsLook objects source bytes name turn (Shown w) = IsShown objects source bytes name turn w
IsLook objects source bytes name turn Foreign = IsOwn objects source bytes → ⊥
IsLook objects source bytes name turn NoAgent = place_of source.names name ≡ None
IsLook objects source bytes name turn (NoTurn turns) = HasNoTurn bytes turn turns

-- such a look at the project of this word: the files describe a source, whose agents make at most so many cycles as a run that names none
pub record IsLookIn (objects : List Used) (held : Option (List Filed)) (word bytes name : List ℕ) (turn : Option ℕ) (look : Look) : Type 0 where
  pub source : Source
  pub has : HasSource (known objects) defaults.cycles held word source
  pub look_is : IsLook objects source bytes name turn look
