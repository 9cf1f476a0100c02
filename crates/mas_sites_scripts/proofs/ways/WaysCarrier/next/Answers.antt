use Rattle.mas_sites_scripts.proofs.OnTheWay.{next_ways, next_entry, next_got}
use Rattle.mas_sites_scripts.proofs.ways.WaysCarrier.next.Goals as goal

pub invariant_of-self : goal.invariant_of-self
invariant_of-self c = rw c.take_oldest.ensures.rest (next_ways c.self.inside.boxes c.args.a _ (rw c.self.view_is c.requires) c.at_mut-way.ensures.value c.self.invariant)

pub returns-clause-entry : goal.returns-clause-entry
returns-clause-entry c = rw (c.take_oldest.ensures.first, ← c.self.view_is) (next_entry c.self.inside.boxes c.args.a _ (rw c.self.view_is c.requires) c.at_mut-way.ensures.value c.self.invariant)

pub returns-clause-got : goal.returns-clause-got
returns-clause-got c = rw (c.take_oldest.ensures.first, c.take_oldest.ensures.rest, ← c.self.view_is) (next_got c.self.inside.boxes c.args.a _ c.at_mut-way.ensures.value)
