-- What is true of the plans after a message.
use Rattle.std.specs.Prelude.{◌≡◌, ℕ, List}
use Rattle.mas_mind.specs.declared.mind.Message.{Message}
use Rattle.asl_plans.specs.declared.entry.OwnedPlan.{OwnedPlan}
use Rattle.asl_plans.specs.Laws.{KeepsOwner}
use Rattle.asl_kqml.specs.Receive.{learned}

-- rule: a message takes nothing from an owner that is not its sender, so none of the source, whose number is 0
abbrev pub MessagesKeep : Type 0
MessagesKeep = (lib : List OwnedPlan) (n : ℕ) (m : Message) (o : ℕ) → (o ≡ m.from → ⊥) → KeepsOwner o lib (learned lib n m)
