-- The agent of a source begins plain.
use Rattle.std.specs.Prelude.{ℕ, ◌≡◌, false, List}
use Rattle.asl_term.specs.declared.syntax.AgentText.{AgentText}
use Rattle.asl_resolve.specs.declared.answers.Budgets.{Budgets}
use Rattle.mas_mind.specs.declared.mind.Level.{Level}
use Rattle.asl_cycle.specs.Agent.{agent_kind, opening_mind}
use Rattle.asl_cycle.specs.Trace.{shows_rules}
use Rattle.mas_free.specs.Alike.{IsPlain}

-- Whatever the source, at a level that does not show the names of rows. Where they are shown a quiet cycle writes those of its own.
abbrev pub OpensPlain : Type 0
OpensPlain =
    (me : ℕ) (names : List (List ℕ)) (source : AgentText) (k : Budgets) (level : Level) →
    shows_rules level ≡ false → IsPlain agent_kind (opening_mind me names source k level)
