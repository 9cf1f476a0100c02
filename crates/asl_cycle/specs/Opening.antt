-- What an agent begins with.
use Rattle.std.specs.Prelude.{List, ◌++◌, map}
use Rattle.asl_term.specs.declared.syntax.AgentText.{AgentText}
use Rattle.asl_term.specs.declared.syntax.LiteralOf.{LiteralOf}
use Rattle.asl_term.specs.declared.syntax.Term.{Term}
use Rattle.asl_term.specs.declared.syntax.Trigger.{Trigger}
use Rattle.asl_term.specs.declared.syntax.Kind.TheVariants as kind
use Rattle.asl_beliefs.specs.Sources.{with_source}
use Rattle.asl_beliefs.specs.Bases as beliefs
use Rattle.asl_intend.specs.Agendas as agendas
use Rattle.asl_exec_circumstance.specs.Circumstance.{Circumstance, parts, goal_trigger}

-- what an initial goal is the event of
abbrev pub initial_goal : LiteralOf Term → Trigger
initial_goal g = goal_trigger kind.Achieve (with_source g)

-- rule: the initial beliefs are added in order, and then come the initial goals
abbrev pub initial : AgentText → List Trigger
initial source = (beliefs.opening source).events ++ map initial_goal source.goals

-- rule: the counter begins at 1
abbrev pub opening_parts : AgentText → Circumstance
opening_parts source = parts (beliefs.opening source).beliefs (agendas.opening (initial source)) 1
