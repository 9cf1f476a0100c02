-- What a source that files describe brings with it.
use Rattle.std.specs.Prelude.{◌≡◌, ◌≤◌, Bool, true, List, length, IfSome}
use Rattle.std.specs.List.{list_all}
use Rattle.asl_term.specs.Exprs.{is_ground_literal}
use Rattle.mas_world.specs.declared.acts.WorldText.{WorldText}
use Rattle.mas_world.specs.Facts.{AreFacts}
use Rattle.mas_world.specs.Worlds.{AreNamed, Used}
use Rattle.mas_project.specs.Projects.{most_agents}
use Rattle.mas_top_files.specs.declared.sources.Role.{Role}
use Rattle.mas_top_files.specs.declared.sources.Source.{Source}
use Rattle.mas_top_files.specs.Sources.{texts_of}

abbrev pub is_ground_role : Role → Bool
is_ground_role role = list_all is_ground_literal role.text.beliefs

-- what a world asks of its file, where there are these artifacts
pub record CanOpen (objects : List Used) (text : WorldText) : Type 0 where
  pub facts : AreFacts text.facts
  pub named : AreNamed text.uses objects

-- one name for each agent, at least one and at most 1,024, beliefs without variables, and a world that can be opened
pub record CanRun (objects : List Used) (source : Source) : Type 0 where
  pub named : length source.names ≡ length (texts_of source.roles)
  pub some : 1 ≤ length source.names
  pub few : length source.names ≤ most_agents
  pub ground : list_all is_ground_role source.roles ≡ true
  pub world : IfSome source.world (CanOpen objects)
