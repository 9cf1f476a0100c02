-- The plans of the source stay.
use Rattle.std.proofs.Common.{◌≡◌, ℕ, List, Option, None, Some, IfSome}
use Rattle.mas_mind.specs.declared.mind.Message.{Message}
use Rattle.asl_plans.specs.declared.entry.OwnedPlan.{OwnedPlan}
use Rattle.asl_plans.specs.Laws.{KeepsOwner}
use Rattle.asl_plans.proofs.Owning.{source_owns}
use Rattle.asl_kqml.proofs.Learning.{messages_keep}
use Rattle.asl_cycle.specs.Steps.{plans_after}
use Rattle.asl_cycle.specs.Plans.{BeginsWithSource, CyclesKeepSource}

after_message : (lib : List OwnedPlan) (n : ℕ) (o : Option Message) → IfSome o (λ m. 0 ≡ m.from → ⊥) → KeepsOwner 0 lib (plans_after lib n o)
after_message lib n None other p h = h
after_message lib n (Some m) other p h = messages_keep lib n m 0 other p h

pub cycles_keep_source : CyclesKeepSource
cycles_keep_source m i other = after_message m.plans m.parts.number i.message other

pub begins_with_source : BeginsWithSource
begins_with_source source k p e = source_owns source.plans k p e
