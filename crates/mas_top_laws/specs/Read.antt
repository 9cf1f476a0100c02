-- What a reader makes of the source of an agent is as the laws of covered goals ask.
use Rattle.std.specs.Prelude.{ℕ, List}
use Rattle.asl_term.specs.declared.syntax.AgentText.{AgentText}
use Rattle.asl_parser.specs.Agents.{IsAgent}
use Rattle.asl_lint_laws.specs.Read.{IsRead}

-- some bytes say it
pub record IsSource (text : AgentText) : Type 0 where
  pub bytes : List ℕ
  pub is : IsAgent bytes text

abbrev pub SourcesAreRead : Type 0
SourcesAreRead = (text : AgentText) → IsSource text → IsRead text
