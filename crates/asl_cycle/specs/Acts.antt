-- The stack that waits for its action.
use Rattle.std.specs.Prelude.{ℕ, ◌≡◌, Bool, true, Option, None, Some, is_some}
use Rattle.asl_intend.specs.declared.agenda.Acting.{Acting}
use Rattle.asl_exec_circumstance.specs.Circumstance.{Surroundings, Circumstance}
use Rattle.mas_mind.specs.declared.mind.Feedback.{Feedback}
use Rattle.mas_mind.specs.declared.mind.Input.{Input}
use Rattle.mas_mind.specs.Minds.{asks_feedback}
use Rattle.asl_exec_circumstance.specs.declared.peers.Peers.{Peers}
use Rattle.asl_cycle.specs.Cycle.{cycle}

-- whether no stack waits for its action, or it was told what became of that
abbrev pub is_fed : Option Acting → Option Feedback → Bool
is_fed None kept = true
is_fed (Some a) kept = is_some kept

-- rule: where no stack is left waiting when a cycle begins, one waits after it exactly where its thought has an action.
abbrev pub ActionsAreAwaited : Type 0
ActionsAreAwaited =
    (k : Surroundings) (peers : Peers) (p : Circumstance) (asks : ℕ) (kept : Option Feedback) (i : Input)
    → is_fed p.agenda.acting kept ≡ true
    → is_some (cycle k peers p asks kept i).parts.agenda.acting ≡ asks_feedback (cycle k peers p asks kept i).thought
