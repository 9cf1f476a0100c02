-- The platform at the start.
use Rattle.std.specs.Prelude.{ℕ, ◌+◌, List, [], ◌∷◌, map, Option, None, Some}
use Rattle.asl_term.specs.declared.syntax.AgentText.{AgentText}
use Rattle.asl_term.specs.declared.syntax.LiteralOf.{LiteralOf}
use Rattle.asl_term.specs.declared.syntax.Term.{Term}
use Rattle.asl_resolve.specs.declared.answers.Budgets.{Budgets}
use Rattle.asl_cycle.specs.Agent.{Mindset, opening_mind}
use Rattle.mas_world.specs.declared.acts.WorldText.{WorldText}
use Rattle.mas_world.specs.declared.acts.Act.{Act}
use Rattle.mas_world.specs.Worlds.{World, Used, used, opened}
use Rattle.mas_board.specs.Boards as boards
use Rattle.mas_core.specs.Platform.{Platform, opening_platform}
use Rattle.mas_report.specs.declared.options.Options.{Options}
use Rattle.mas_top_files.specs.declared.sources.Source.{Source}
use Rattle.mas_top_files.specs.Sources.{texts_of}

-- beside the files of a project: the options, and the artifacts that the caller hands in
pub record Setup : Type 0 where
  pub options : Options
  pub objects : List Used

-- what contracts see of artifacts: of each its name, its table and its facts
abbrev pub objects_of : {A : Type 0} → (A → List ℕ) → (A → List Act) → (A → List (LiteralOf Term)) → List A → List Used
objects_of named table facts = map (λ a. used (named a) (table a) (facts a))

abbrev pub setup : Options → List Used → Setup
setup options objects = record { options = options; objects = objects }

abbrev pub budgets_of : Options → Budgets
budgets_of o = record { depth = o.depth; tries = o.tries }

-- a world without facts, in which no action is done
abbrev pub no_text : WorldText
no_text = record { facts = []; hidden = []; uses = []; acts = [] }

-- the world at the start, with those artifacts that its file uses
abbrev pub opening_world : List Used → Option WorldText → World
opening_world objects None = opened no_text objects
opening_world objects (Some text) = opened text objects

-- an agent among these names, by its number, before its first cycle
abbrev pub mind_of : Options → List (List ℕ) → ℕ → AgentText → Mindset
mind_of o names a text = opening_mind a names text (budgets_of o) o.level

-- the agents of these sources, among all these names, with their numbers from this one on
abbrev pub minds_from : Options → List (List ℕ) → ℕ → List AgentText → List Mindset
minds_from o names a [] = []
minds_from o names a (text ∷ texts) = mind_of o names a text ∷ minds_from o names (a + 1) texts

abbrev pub opening_minds : Options → Source → List Mindset
opening_minds o source = minds_from o source.names 1 (texts_of source.roles)

abbrev pub opening_board : Setup → Source → boards.State
opening_board u source = boards.opening source.names (opening_world u.objects source.world) u.options.cycles u.options.lead

-- every agent of the source idle, at cycle 0
abbrev pub opening : Setup → Source → Platform Mindset
opening u source = opening_platform (opening_board u source) (opening_minds u.options source)
