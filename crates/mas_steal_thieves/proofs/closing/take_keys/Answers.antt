use Rattle.std.proofs.Common.{refl, ◌∙◌}
use Rattle.mas_steal_thieves.proofs.Closings.{joining_open_at, joining_goes_at}
use Rattle.mas_steal_thieves.proofs.closing.take_keys.Goals as goal

pub take_key-requires-clause-open : goal.take_key-requires-clause-open
take_key-requires-clause-open g c =
    (joining_open_at _ _ _ _ _ c.pop.new.self.items c.in-Some.key _ (c.len-place.ensures ∙ c.pop.new.self.ok.0) c.loop-key.invariant c.in-Some.ensures.items c.index_mut.ensures.value).0

pub take_key-requires-clause-door : goal.take_key-requires-clause-door
take_key-requires-clause-door g c =
    (joining_open_at _ _ _ _ _ c.pop.new.self.items c.in-Some.key _ (c.len-place.ensures ∙ c.pop.new.self.ok.0) c.loop-key.invariant c.in-Some.ensures.items c.index_mut.ensures.value).1

pub loop-key-preserved : goal.loop-key-preserved
loop-key-preserved g c =
    joining_goes_at _ _ _ _ _ _ c.pop.new.self.items c.in-Some.key _ _ (c.len-place.ensures ∙ c.pop.new.self.ok.0) c.loop-key.invariant c.in-Some.ensures.items c.index_mut.ensures.value c.take_key.ensures.same c.take_key.ensures.rule
    c.take_key.ensures.most refl
