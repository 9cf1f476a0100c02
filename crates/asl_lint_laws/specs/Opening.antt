-- An agent whose source is covered, among agents whose sources are, begins as one all of whose goals are.
use Rattle.std.specs.Prelude.{◌≡◌, ◌-◌, ℕ, true, List, map, slice_get, Some}
use Rattle.std.specs.List.{AllByRecursion}
use Rattle.asl_term.specs.declared.syntax.AgentText.{AgentText}
use Rattle.asl_plans.specs.Libraries.{opened}
use Rattle.asl_resolve.specs.declared.answers.Budgets.{Budgets}
use Rattle.mas_mind.specs.declared.mind.Level.{Level}
use Rattle.asl_cycle.specs.Agent.{opening_mind}
use Rattle.asl_lint.specs.Lints.{all_hold}
use Rattle.asl_lint_laws.specs.Read.{IsRead}
use Rattle.asl_lint_laws.specs.Cycles.{AgentServed}

abbrev pub OpensServed : Type 0
OpensServed =
    (names : List (List ℕ)) (texts : List AgentText) (me : ℕ) (text : AgentText) (k : Budgets) (level : Level) → AllByRecursion IsRead texts →
    all_hold names texts ≡ true → (me ≡ 0 → ⊥) → slice_get texts (me - 1) ≡ Some text →
    AgentServed texts (map (λ t. opened t.plans) texts) (opening_mind me names text k level)
