-- A message leaves an agent all of whose goals are covered so.
use Rattle.std.specs.Prelude.{◌≡◌, ◌-◌, ℕ, List, slice_get, Some}
use Rattle.asl_term.specs.declared.syntax.AgentText.{AgentText}
use Rattle.asl_term.specs.declared.syntax.Plan.{Plan}
use Rattle.asl_plans.specs.declared.entry.OwnedPlan.{OwnedPlan}
use Rattle.asl_plans.specs.Libraries.{opened}
use Rattle.asl_exec_circumstance.specs.Circumstance.{Surroundings, Circumstance}
use Rattle.mas_mind.specs.declared.mind.Message.{Message}
use Rattle.asl_exec_circumstance.specs.declared.peers.Peers.{Peers}
use Rattle.asl_kqml.specs.Receive.{receive, learned}
use Rattle.asl_lint_laws.specs.RowsServed.{AroundServed, PartsServed}
use Rattle.asl_lint_laws.specs.Messages.{AreOwn, MessageServed, ReceivedServed}

-- the plans with which an agent begins are its own
abbrev pub OpenedAreOwn : Type 0
OpenedAreOwn = (plans : List Plan) → AreOwn (opened plans)

-- and they stay as they are
abbrev pub PlansStay : Type 0
PlansStay = (libs : List (List OwnedPlan)) (plans : List OwnedPlan) (n : ℕ) (m : Message) → AreOwn plans → MessageServed libs m → learned plans n m ≡ plans

abbrev pub ReceiveKeeps : Type 0
ReceiveKeeps =
    (names : List (List ℕ)) (texts : List AgentText) (libs : List (List OwnedPlan)) (k : Surroundings) (peers : Peers) (p : Circumstance) (m : Message) →
    AroundServed names texts k → PartsServed names texts k.plans p → (peers.me ≡ 0 → ⊥) → slice_get libs (m.to - 1) ≡ Some k.plans → MessageServed libs m →
    ReceivedServed libs names texts k.plans p.number (receive k peers p m)
