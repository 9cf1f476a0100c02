use Rattle.mas_steal_thieves.proofs.Closings.{rows_go}
use Rattle.mas_steal_thieves.proofs.closing.take_rows.Goals as goal

pub loop-keys-preserved : goal.loop-keys-preserved
loop-keys-preserved g c = rows_go _ _ _ _ _ c.pop.new.self.items c.in-Some.keys c.loop-keys.invariant c.in-Some.ensures.items c.take_keys.ensures
