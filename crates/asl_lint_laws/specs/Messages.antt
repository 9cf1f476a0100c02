-- Messages between agents all of whose goals are covered.
use Rattle.std.specs.Prelude.{◌≡◌, ◌≤◌, ◌-◌, ℕ, List, [], ◌∷◌, slice_get, Option, Some, None, IfSome}
use Rattle.std.specs.List.{AllByRecursion}
use Rattle.asl_term.specs.declared.syntax.AgentText.{AgentText}
use Rattle.asl_term.specs.declared.syntax.Kind.TheVariants as kind
use Rattle.asl_term.specs.declared.syntax.LiteralOf.{LiteralOf}
use Rattle.asl_term.specs.declared.syntax.Term.{Term}
use Rattle.asl_lint_laws.specs.Fresh.{TermsBelow}
use Rattle.asl_plans.specs.declared.entry.OwnedPlan.{OwnedPlan}
use Rattle.mas_mind.specs.declared.mind.Message.{Message}
use Rattle.mas_mind.specs.declared.mind.Verb.{Verb}
use Rattle.mas_mind.specs.declared.mind.Verb.TheVariants as verb
use Rattle.asl_kqml.specs.declared.took.Took.{Took}
use Rattle.asl_kqml.specs.declared.took.Took.TheVariants as took
use Rattle.asl_exec_circumstance.specs.Contents.{literal_of}
use Rattle.asl_kqml.specs.Receive.{Received}
use Rattle.asl_lint_laws.specs.Served.{IsServed}
use Rattle.asl_lint_laws.specs.Agendas.{IsMerged}
use Rattle.asl_lint_laws.specs.RowsServed.{IsOther, PartsServed}

-- the plans of a source are from nobody else
abbrev pub AreOwn : List OwnedPlan → Type 0
AreOwn = AllByRecursion (λ e. e.owners ≡ 0 ∷ [])

-- where these are the plans of the agents, in the order of their numbers from 1
module _ (libs : List (List OwnedPlan)) where
  -- a goal is served at an agent
  abbrev pub IsServedAt : ℕ → LiteralOf Term → Type 0
  IsServedAt to g = IfSome (slice_get libs (to - 1)) (λ plans. IsServed kind.Achieve plans g)

  abbrev pub GoalSent : ℕ → Option (LiteralOf Term) → Type 0
  GoalSent to None = Unit {0}
  GoalSent to (Some g) = IsServedAt to g × IsMerged g

  -- a goal that is sent is served where it comes; plans are neither told nor asked for
  abbrev pub IsSent : ℕ → Verb → Term → Type 0
  IsSent to verb.Achieve t = GoalSent to (literal_of t)
  IsSent to verb.TellHow t = ⊥
  IsSent to verb.AskHow t = ⊥
  IsSent to verb.Tell t = Unit {0}
  IsSent to verb.Untell t = Unit {0}
  IsSent to verb.Unachieve t = Unit {0}
  IsSent to verb.AskOne t = Unit {0}
  IsSent to verb.AskAll t = Unit {0}
  IsSent to verb.UntellHow t = Unit {0}

  -- a message on its way: it is from an agent, and its variables have no number
  pub record MessageServed (m : Message) : Type 0 where
    pub from : m.from ≡ 0 → ⊥
    pub below : TermsBelow 1 (m.content ∷ [])
    pub sent : IsSent m.to m.verb m.content

  abbrev pub TookServed : Took → Type 0
  TookServed (took.Row r reply falls) = IsOther r × IfSome reply MessageServed
  TookServed (took.Spent b) = Unit {0}

  -- what a message leaves, where the counter was n before
  pub record ReceivedServed (names : List (List ℕ)) (texts : List AgentText) (plans : List OwnedPlan) (n : ℕ) (r : Received) : Type 0 where
    pub number : n ≤ r.parts.number
    pub parts : PartsServed names texts plans r.parts
    pub took : TookServed r.took
