use Rattle.std.proofs.Common.{◌∙◌, ◌++◌, ◌∷◌, [], ap, sym}
use Rattle.mas_steal_thieves.proofs.Closings.{map_snoc, kept_snoc}
use Rattle.mas_steal_thieves.proofs.closing.split_hands.Goals as goal

pub loop-hand-preserved : goal.loop-hand-preserved
loop-hand-preserved g c = (
  c.in_ok-push.ensures.items ∙ ap (λ l. l ++ c.in-Some.hand.own ∷ []) c.loop-hand.invariant.0 ∙ sym (map_snoc _ _ c.in-Some.hand),
  c.in_ok-push-2.ensures.items ∙ ap (λ l. l ++ c.in-Some.hand.keys ∷ []) c.loop-hand.invariant.1 ∙ sym (map_snoc _ _ c.in-Some.hand),
  c.in_ok-all.ensures ∙ ap (λ l. l ++ c.in-Some.hand.kept.items) c.loop-hand.invariant.2 ∙ sym (kept_snoc c.loop-hand.yielded c.in-Some.hand),
)
