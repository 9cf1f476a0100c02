-- Internal actions on goals, beliefs and other agents leave an agent all of whose goals are covered so.
use Rattle.std.specs.Prelude.{◌≡◌, ◌≤◌, ℕ, List, map, Ok}
use Rattle.std.specs.List.{AllByRecursion}
use Rattle.asl_term.specs.declared.syntax.AgentText.{AgentText}
use Rattle.asl_term.specs.declared.syntax.CallOf.{CallOf}
use Rattle.asl_term.specs.declared.syntax.Expr.{Expr}
use Rattle.asl_plans.specs.declared.entry.OwnedPlan.{OwnedPlan}
use Rattle.asl_plans.specs.Libraries.{opened}
use Rattle.asl_intend.specs.declared.entry.Means.{Means}
use Rattle.asl_exec_circumstance.specs.Circumstance.{Surroundings, Circumstance}
use Rattle.asl_exec_circumstance.specs.declared.peers.Peers.{Peers}
use Rattle.asl_goals.specs.declared.acted.Acted.{Acted}
use Rattle.asl_goals.specs.declared.acted.Acted.TheVariants as acted
use Rattle.asl_goals.specs.Inside.{Did, act_inside}
use Rattle.asl_lint_laws.specs.Served.{HasWritten}
use Rattle.asl_lint_laws.specs.Agendas.{StackServed}
use Rattle.asl_lint_laws.specs.RowsServed.{AroundServed, PartsServed, CallServed}
use Rattle.asl_lint_laws.specs.Messages.{MessageServed}

-- agents begin with the plans of these sources, as a reader makes them
pub record AreOpened (texts : List AgentText) (libs : List (List OwnedPlan)) : Type 0 where
  pub opened : libs ≡ map (λ t. opened t.plans) texts
  pub written : AllByRecursion (λ t. AllByRecursion HasWritten t.plans) texts

-- what it sends is served where it comes
abbrev pub ActedServed : List (List OwnedPlan) → Acted → Type 0
ActedServed libs (acted.Sent messages) = AllByRecursion (MessageServed libs) messages
ActedServed libs (acted.Asked m) = MessageServed libs m
ActedServed libs (acted.Ok falls) = Unit {0}
ActedServed libs (acted.Gone falls) = Unit {0}
ActedServed libs acted.Stop = Unit {0}
ActedServed libs (acted.Failed e) = Unit {0}

-- what an action leaves, where the counter was n before
pub record DidServed (names : List (List ℕ)) (texts : List AgentText) (libs : List (List OwnedPlan)) (plans : List OwnedPlan) (n : ℕ) (d : Did) : Type 0 where
  pub number : n ≤ d.parts.number
  pub parts : PartsServed names texts plans d.parts
  pub cur : StackServed names texts plans d.parts.number d.cur
  pub acted : ActedServed libs d.acted

abbrev pub DeedKeeps : Type 0
DeedKeeps =
    (texts : List AgentText) (libs : List (List OwnedPlan)) →
    (k : Surroundings) (peers : Peers) (asks : ℕ) (p : Circumstance) (cur : List Means) (c : CallOf Expr) →
    AreOpened texts libs → (peers.me ≡ 0 → ⊥) → AroundServed peers.names texts k → PartsServed peers.names texts k.plans p →
    StackServed peers.names texts k.plans p.number cur → CallServed peers.names texts k.plans p.number c →
    DidServed peers.names texts libs k.plans p.number (act_inside k peers asks p cur c)
