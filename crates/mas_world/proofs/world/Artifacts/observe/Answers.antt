use Rattle.std.proofs.Common.{List, ◌∙◌, subst}
use Rattle.std.specs.List.{AllByRecursion}
use Rattle.mas_world.specs.Facts.{AreFacts}
use Rattle.mas_world.specs.Worlds.{Used}
use Rattle.mas_world.proofs.Uses.{all_done}
use Rattle.mas_world.proofs.world.Artifacts.observe.Goals as goal

pub returns-clause-sound : goal.returns-clause-sound
returns-clause-sound g c =
    let P : List Used → Type 0 = AllByRecursion (λ u. AreFacts u.segment.facts) in
    subst P (c.deref-k-items.ensures.value ∙ c.self.view_is)
    (all_done (λ u. AreFacts u.segment.facts) c.deref-k-items.result.now c.loop-k.k-index c.loop-k-test.false c.loop-k.invariant.1)
